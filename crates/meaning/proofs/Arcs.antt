-- An arc by its ends.
use mathlib.Core.Path.{◌≡◌}
use Prim.Native.Nat.{ℕ, ◌<◌}
use lib.Dec.{eqb, eqb→eq, eqb_refl}
use Rattle.meaning.specs.Region.{Region, ArcOf}
use Rattle.meaning.proofs.Bools.{and_both, and_make}

module _ {R : Region} {u v w : ℕ} where
  pub arc_tail : (a : ArcOf R u v w) → R.tail a.index ≡ u
  arc_tail a = eqb→eq (R.tail a.index) u (and_both (eqb (R.tail a.index) u) (eqb (R.head a.index) v) a.ends).0

  pub arc_head : (a : ArcOf R u v w) → R.head a.index ≡ v
  arc_head a = eqb→eq (R.head a.index) v (and_both (eqb (R.tail a.index) u) (eqb (R.head a.index) v) a.ends).1

  pub arc_of : (i : ℕ) → i < R.m → R.tail i ≡ u → R.head i ≡ v → R.weight i ≡ w → ArcOf R u v w
  arc_of i l t h e = record { index = i; below = l; ends = and_make (eqb (R.tail i) u) (eqb (R.head i) v) (rw t (eqb_refl u)) (rw h (eqb_refl v)); weighs = e }
