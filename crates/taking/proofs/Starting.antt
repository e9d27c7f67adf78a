-- The start: in a memory of zeros the query node is opened.
use mathlib.Core.Bool.{false}
use mathlib.Core.List.{List, []}
use mathlib.Core.Path.{◌≡◌, refl, ◌∙◌}
use Prim.Native.Nat.{ℕ, ◌+◌, ◌*◌, ◌≤◌, ◌<◌}
use native.Mathlib.Omega.{arith}
use lib.ListN.{length, get_or, set, drop, replicate, get_or-replicate}
use lib.Seq.{get_or-set_other}
use Rattle.meaning.specs.Region.{Tables, region_of, is_site}
use Rattle.meaning.specs.Taking.{taken, is_open, aimed, start}
use Rattle.meaning.specs.Search.{aim_of, over}
use Rattle.memory.specs.Memory.{Holds, rival_of}
use Rattle.memory.specs.Aim.{Ground, NoneTaken}
use Rattle.memory.specs.Tree.{But, Bare}
use Rattle.memory.proofs.Lines.{line_is}
use Rattle.memory.proofs.Writes.{line_with, held_none, held_open}
use Rattle.memory.proofs.TreeChanges.{but_bare}
use Rattle.taking.specs.Steps.{Live, rival_at}
use Rattle.taking.proofs.Reaching.{unseen_not_taken, with_present, with_same}

module _ (n : ℕ) (w w₁ : List ℕ) (room : 4 * n ≤ length w) (e : w₁ ≡ over (replicate (4 * n) 0) w) where
  -- no node has been taken
  pub none_taken : NoneTaken n w₁
  none_taken v l = unseen_not_taken n v w₁ (rw e ((held_none n (λ x. false) (λ x. 0) w room).lens v l ∙ get_or-replicate n v 0 0 l))

  -- and none is open
  none_open : (v : ℕ) → v < n → get_or w₁ (n + v) 0 ≡ 0
  unfolding is_open
  none_open v l = rw e ((held_none n (λ x. false) (λ x. 0) w room).rivals v l ∙ rw (get_or-replicate {A = ℕ} n v 0 0 l))

  -- then the query node alone
  pub start_tree : (q a r : ℕ) {t : List ℕ} → q < n → Bare n t → But n (set (set w₁ q a) (n + q) r) q t
  start_tree q a r l B =
      but_bare B (λ x k z. get_or-set_other (set w₁ q a) (n + q) (n + x) r 0 (λ y. z (omega arith)) ∙ get_or-set_other w₁ q (n + x) a 0 (λ y. omega arith) ∙ none_open x k)

pub started : (t : Tables) (q : ℕ) (w w₁ : List ℕ) → 4 * t.n ≤ length w → q < t.n → Ground t → w₁ ≡ over (replicate (4 * t.n) 0) w
    → (r : ℕ) → r ≡ rival_at t w₁ q → Live t (start (region_of t) q) (replicate t.n 0) (drop (4 * t.n) w) (set (set w₁ q 1) (t.n + q) r)
unfolding start aimed taken is_site
started t q w w₁ room l g e r er =
    let aim = aim_of t (aimed (region_of t) (start (region_of t) q)) in
    let H : Holds t.n (is_site (region_of t)) aim (record { best = replicate t.n 0; order = [] }) (replicate t.n 0) (drop (4 * t.n) w) w₁ = rw e (held_none t.n (is_site (region_of t)) aim w room) in
    let i : r ≡ rival_of (aim q) (is_site (region_of t) q) = rw (er, line_is t g H q) in
    record {
      line = line_with aim q (aim q);
      holds = rw i (held_open H q l (get_or-replicate t.n q 0 0 l) 1 (aim q) (omega arith));
      low = λ j m v. with_present aim aim q v (omega arith);
      exact = λ a v. with_same aim aim q v refl;
    }
