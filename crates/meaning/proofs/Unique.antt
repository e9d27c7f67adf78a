-- No second outcome of a reader fits, and a refusal changes nothing.
use Prim.Native.Nat.{ℕ}
use mathlib.Core.Path.{◌≡◌, refl, sym, ◌∙◌}
use mathlib.Core.List.{List}
use lib.IntN.{ℤ}
use native.Mathlib.Omega.{arith}
use Rattle.std.specs.Prelude.{Result, Err}
use Rattle.meaning.specs.Files.{Reading, refused, read, answered, in_front, by_node, node_of, head_of, weight_of, x_of, y_of, graph_reading, coordinate_reading, site_reading, GraphRead, CoordinatesRead, SitesRead}
use Rattle.meaning.specs.declared.Limits.{Limits}
use Rattle.meaning.specs.declared.Refusal.{Refusal}
use Rattle.meaning.specs.declared.Counts.{Counts}
use Rattle.meaning.specs.declared.Entry.{Entry}

-- ---- two outcomes of one call are equal

pub graph_unique : {L : Limits} {text t h w t₁ h₁ w₁ t₂ h₂ w₂ : List ℕ} {a₁ a₂ : Result Counts Refusal} → GraphRead L text t h w t₁ h₁ w₁ a₁ → GraphRead L text t h w t₂ h₂ w₂ a₂
    → (a₁ ≡ a₂) × (t₁ ≡ t₂) × (h₁ ≡ h₂) × (w₁ ≡ w₂)
graph_unique p q = (p.answer_is ∙ sym q.answer_is, p.tails_are ∙ sym q.tails_are, p.heads_are ∙ sym q.heads_are, p.weights_are ∙ sym q.weights_are)

pub coordinates_unique : {L : Limits} {text : List ℕ} {n : ℕ} {x y x₁ y₁ x₂ y₂ : List ℤ} {a₁ a₂ : Result Counts Refusal} → CoordinatesRead L text n x y x₁ y₁ a₁ → CoordinatesRead L text n x y x₂ y₂ a₂
    → (a₁ ≡ a₂) × (x₁ ≡ x₂) × (y₁ ≡ y₂)
coordinates_unique p q = (p.answer_is ∙ sym q.answer_is, p.xs_are ∙ sym q.xs_are, p.ys_are ∙ sym q.ys_are)

pub sites_unique : {L : Limits} {text : List ℕ} {n : ℕ} {s s₁ s₂ : List ℕ} {a₁ a₂ : Result Counts Refusal} → SitesRead L text n s s₁ a₁ → SitesRead L text n s s₂ a₂
    → (a₁ ≡ a₂) × (s₁ ≡ s₂)
sites_unique p q = (p.answer_is ∙ sym q.answer_is, p.sites_are ∙ sym q.sites_are)

-- ---- "Every refusal returns its number and a place, and every lent buffer keeps its entry contents"

pub front_kept : {A : Type 0} (value : Entry → A) (r : Reading) (why : Refusal) (xs : List A) → answered r ≡ Err why → in_front value r xs ≡ xs
front_kept value (refused fault place) why xs h = refl
front_kept value (read c es) why xs h = let z : ◌≡◌ {A = ℕ} 0 1 = cc in absurd (omega arith)

pub node_kept : {A : Type 0} (value : Entry → A) (r : Reading) (why : Refusal) (xs : List A) → answered r ≡ Err why → by_node value r xs ≡ xs
node_kept value (refused fault place) why xs h = refl
node_kept value (read c es) why xs h = let z : ◌≡◌ {A = ℕ} 0 1 = cc in absurd (omega arith)

pub graph_refused : {L : Limits} {text t h w t' h' w' : List ℕ} {why : Refusal} → GraphRead L text t h w t' h' w' (Err why) → (t' ≡ t) × (h' ≡ h) × (w' ≡ w)
graph_refused {L} {text} {t} {h} {w} {why} g =
    let r : Reading = graph_reading L text t h w in
    let a : answered r ≡ Err why = sym g.answer_is in
    (g.tails_are ∙ front_kept node_of r why t a, g.heads_are ∙ front_kept head_of r why h a, g.weights_are ∙ front_kept weight_of r why w a)

pub coordinates_refused : {L : Limits} {text : List ℕ} {n : ℕ} {x y x' y' : List ℤ} {why : Refusal} → CoordinatesRead L text n x y x' y' (Err why) → (x' ≡ x) × (y' ≡ y)
coordinates_refused {L} {text} {n} {x} {y} {why} g =
    let r : Reading = coordinate_reading L text n x y in
    let a : answered r ≡ Err why = sym g.answer_is in
    (g.xs_are ∙ node_kept x_of r why x a, g.ys_are ∙ node_kept y_of r why y a)

pub sites_refused : {L : Limits} {text : List ℕ} {n : ℕ} {s s' : List ℕ} {why : Refusal} → SitesRead L text n s s' (Err why) → s' ≡ s
sites_refused {L} {text} {n} {s} {why} g = g.sites_are ∙ front_kept node_of (site_reading L text n s) why s (sym g.answer_is)
