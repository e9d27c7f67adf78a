-- What the entries of a memory say of the state that it holds.
use mathlib.Core.Path.{◌≡◌, refl}
use mathlib.Core.Bool.{Bool, true, false, not, cond, ◌&&◌}
use mathlib.Core.List.{List}
use Prim.Native.Nat.{ℕ, zero, suc, ◌+◌, ◌-◌, ◌*◌, ◌/◌, ◌%◌, ◌<◌}
use native.Mathlib.Omega.{arith}
use borrow.Author.Tests.{lt-ltb}
use lib.Dec.{T, eqb, eqb-suc-zero, ltb}
use lib.ListN.{get_or}
use Rattle.meaning.specs.Taking.{State, taken, is_open, len_at, bit, key}
use Rattle.meaning.proofs.Bools.{T_true}
use Rattle.memory.specs.Memory.{Holds, rival_of, is_taken, key_at}

-- ---- one entry

-- a node that isn't open has 0, an open one has not
rival_open : (b : Bool) (x : ℕ) → not (eqb (cond b (suc x) 0) 0) ≡ b
rival_open true x = rw (eqb-suc-zero x)
rival_open false x = refl

rival_line : (l : ℕ) (b : Bool) → (rival_of l b - 1) / 2 ≡ l
rival_line l true = omega arith
rival_line l false = omega arith

rival_bit : (l : ℕ) (b : Bool) → (rival_of l b - 1) % 2 ≡ bit b
rival_bit l true = omega arith
rival_bit l false = omega arith

rival_site : (l : ℕ) (b : Bool) → eqb (rival_of l b % 2) 0 ≡ b
rival_site l true = let e : rival_of l true % 2 ≡ 0 = omega arith in rw e
rival_site l false = let e : rival_of l false % 2 ≡ 1 = omega arith in rw e

-- a seen node is taken if it isn't open; one that has not been seen is neither
taken_of : (x r : ℕ) (t : Bool) → (T t → 0 < x) → not (eqb x 0) && eqb (cond (ltb 0 x && not t) (suc r) 0) 0 ≡ t
taken_of zero r true h = absurd (omega (arith, h tt))
taken_of zero r false h = refl
taken_of (suc x) r true h = rw (eqb-suc-zero x, lt-ltb 0 (suc x) (omega arith))
taken_of (suc x) r false h = rw (eqb-suc-zero x, lt-ltb 0 (suc x) (omega arith), eqb-suc-zero r)

-- ---- of the state held

module _ {n : ℕ} {site : ℕ → Bool} {line : ℕ → ℕ} {s : State} {from rest w : List ℕ} (H : Holds n site line s from rest w) where
  pub rival_is : (v : ℕ) → v < n → T (is_open s v) → get_or w (n + v) 0 ≡ rival_of (line v) (site v)
  rival_is v l t = rw (H.rivals v l, T_true (is_open s v) t)

  pub open_is : (v : ℕ) → v < n → not (eqb (get_or w (n + v) 0) 0) ≡ is_open s v
  open_is v l = rw (H.rivals v l) (rival_open (is_open s v) (line v * 2 + bit (site v)))

  pub taken_is : (v : ℕ) → v < n → is_taken n w v ≡ taken s v
  unfolding is_open
  taken_is v l = rw (H.rivals v l, H.lens v l) (taken_of (get_or s.best v 0) (line v * 2 + bit (site v)) (taken s v) (H.seen v))

  pub key_is : (v : ℕ) → v < n → T (is_open s v) → key_at n w v ≡ key line site v (len_at s.best v)
  key_is v l t = rw (rival_is v l t, H.lens v l, rival_line (line v) (site v), rival_bit (line v) (site v))

  pub site_is : (v : ℕ) → v < n → T (is_open s v) → eqb (get_or w (n + v) 0 % 2) 0 ≡ site v
  site_is v l t = rw (rival_is v l t) (rival_site (line v) (site v))
