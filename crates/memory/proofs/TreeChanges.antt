-- The tree after writes of a node's entries in the memory.
use mathlib.Core.List.{List}
use mathlib.Core.Path.{◌≡◌, refl, ◌∙◌}
use Prim.Native.Nat.{ℕ, ◌+◌, ◌*◌, ◌≤◌, ◌<◌}
use native.Mathlib.Omega.{arith}
use lib.ListN.{get_or, set, replicate, get_or-replicate}
use lib.Seq.{get_or-set_other}
use Rattle.meaning.specs.Limits.{base}
use Rattle.memory.specs.Tree.{Tree, But, Bare, SameKeys, Elsewhere}

-- at first
pub bare_all : (n : ℕ) → n ≤ base.nodes → Bare n (replicate (2 * base.nodes) 0)
bare_all n l = record { room = omega arith; none = λ j h. get_or-replicate (2 * base.nodes) j 0 0 (omega arith) }

pub tree_same : {n : ℕ} {w w' t : List ℕ} → Tree n w t → SameKeys n w w' → Tree n w' t
tree_same T S = record {
  room = T.room;
  near = λ v l o. rw (S.lens v l, S.rivals v l) (T.near v l (rw (S.rivals v l) at o));
  leaves = λ v l. rw (S.lens v l, S.rivals v l) (T.leaves v l);
  settled = T.settled;
}

pub tree_but : {n v : ℕ} {w w' t : List ℕ} → Tree n w t → Elsewhere n v w w' → But n w' v t
tree_but T E = record {
  room = T.room;
  near = λ x l z o. rw (E.lens x l z, E.rivals x l z) (T.near x l (rw (E.rivals x l z) at o));
  leaves = λ x l z. rw (E.lens x l z, E.rivals x l z) (T.leaves x l);
  settled = T.settled;
}

-- nothing stands anywhere, and only v may be open
pub but_bare : {n v : ℕ} {w t : List ℕ} → Bare n t → ((x : ℕ) → x < n → (x ≡ v → ⊥) → get_or w (n + x) 0 ≡ 0) → But n w v t
but_bare B z = record {
  room = B.room;
  near = λ x l k o. absurd (rw (z x l k) at o);
  leaves = λ x l k. B.none _ (omega arith) ∙ rw (z x l k);
  settled = λ j l h. omega (arith, B.none j (omega arith), B.none (2 * j) (omega arith), B.none (2 * j + 1) (omega arith));
}

-- ---- writes of node v

pub else_none : (n v : ℕ) (w : List ℕ) → Elsewhere n v w w
else_none n v w = record { lens = λ x l z. refl; rivals = λ x l z. refl }

module _ {n v : ℕ} {w w' : List ℕ} (E : Elsewhere n v w w') (l : v < n) (a : ℕ) where
  pub else_length : Elsewhere n v w (set w' v a)
  else_length = record {
    lens = λ x h z. get_or-set_other w' v x a 0 z ∙ E.lens x h z;
    rivals = λ x h z. get_or-set_other w' v (n + x) a 0 (λ e. omega arith) ∙ E.rivals x h z;
  }

  pub else_rival : Elsewhere n v w (set w' (n + v) a)
  else_rival = record {
    lens = λ x h z. get_or-set_other w' (n + v) x a 0 (λ e. omega arith) ∙ E.lens x h z;
    rivals = λ x h z. get_or-set_other w' (n + v) (n + x) a 0 (λ e. z (omega arith)) ∙ E.rivals x h z;
  }

-- the node before h on the route is none of what nodes are compared by
pub else_lead : {n v : ℕ} {w w' : List ℕ} → Elsewhere n v w w' → (h a : ℕ) → h < n → Elsewhere n v w (set w' (n + n + h) a)
else_lead {n} {v} {w} {w'} E h a l = record {
  lens = λ x m z. get_or-set_other w' (n + n + h) x a 0 (λ e. omega arith) ∙ E.lens x m z;
  rivals = λ x m z. get_or-set_other w' (n + n + h) (n + x) a 0 (λ e. omega arith) ∙ E.rivals x m z;
}
