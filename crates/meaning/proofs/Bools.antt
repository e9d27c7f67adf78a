-- Tests as types.
use mathlib.Core.Path.{◌≡◌, refl}
use mathlib.Core.Logic.{◌⊎◌, inl, inr}
use mathlib.Core.Bool.{Bool, true, false, not, ◌||◌, ◌&&◌}
use lib.Dec.{T}

pub T_true : (b : Bool) → T b → b ≡ true
T_true true t = refl
T_true false t = absurd t

pub T_false : (b : Bool) → T (not b) → b ≡ false
T_false true t = absurd t
T_false false t = refl

pub true_T : (b : Bool) → b ≡ true → T b
true_T b e = rw e tt

pub dec_t : (b : Bool) → T b ⊎ T (not b)
dec_t true = inl tt
dec_t false = inr tt

pub or_cases : (a b : Bool) → T (a || b) → T a ⊎ T b
or_cases true b t = inl tt
or_cases false b t = inr t

pub or_left : (a b : Bool) → T a → T (a || b)
or_left true b t = tt
or_left false b t = absurd t

pub or_right : (a b : Bool) → T b → T (a || b)
or_right true b t = tt
or_right false b t = t

pub nor_both : (a b : Bool) → T (not (a || b)) → T (not a) × T (not b)
nor_both true b t = absurd t
nor_both false b t = (tt, t)

pub and_both : (a b : Bool) → T (a && b) → T a × T b
and_both true b t = (tt, t)
and_both false b t = absurd t

pub and_make : (a b : Bool) → T a → T b → T (a && b)
and_make true b s t = t
and_make false b s t = absurd s
