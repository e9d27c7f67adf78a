-- What an entry that is one more than a place stands for.
use mathlib.Core.Path.{◌≡◌, refl}
use Prim.Native.Nat.{ℕ, zero, suc}
use native.Mathlib.Omega.{arith}
use Rattle.std.specs.Prelude.{Some, None}
use Rattle.memory.specs.Memory.{place_of}

pub place_some : (x i : ℕ) → place_of x ≡ Some i → x ≡ suc i
place_some zero i e = let z : ◌≡◌ {A = ℕ} 0 1 = cc in absurd (omega arith)
place_some (suc x) i e = cc

pub place_none : (x : ℕ) → place_of x ≡ None → x ≡ 0
place_none zero e = refl
place_none (suc x) e = let z : ◌≡◌ {A = ℕ} 0 1 = cc in absurd (omega arith)
