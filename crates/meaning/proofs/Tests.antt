-- What a test, or a chain of tests, that came out so says of its parts.
use Prim.Native.Nat.{ℕ, ◌≤◌}
use mathlib.Core.Path.{◌≡◌, refl}
use mathlib.Core.Bool.{Bool, true, false, cond, ◌&&◌, ◌||◌}
use lib.Dec.{leb}
use native.Mathlib.Omega.{arith}
use borrow.Author.Tests.{leb-true}
use Rattle.std.specs.Prelude.{Result, Ok, Err}
use Rattle.meaning.specs.Limits.{Test, fine, and_then, at}
use Rattle.meaning.specs.Files.{within}

pub not_both : false ≡ true → ⊥
not_both e = let z : ◌≡◌ {A = ℕ} 0 1 = cc in omega arith

pub both : (a b : Bool) → a && b ≡ true → (a ≡ true) × (b ≡ true)
both true b h = (refl, h)
both false b h = absurd (not_both h)

pub neither : (a b : Bool) → a || b ≡ false → (a ≡ false) × (b ≡ false)
neither true b h = let z : ◌≡◌ {A = ℕ} 0 1 = cc in absurd (omega arith)
neither false b h = (refl, h)

pub within_is : (lo x hi : ℕ) → within lo x hi ≡ true → (lo ≤ x) × (x ≤ hi)
within_is lo x hi h = let b = both (leb lo x) (leb x hi) h in (leb-true lo x b.0, leb-true x hi b.1)

-- of tests, whether they know their place or not
module _ {A : Type 0} where
  pub not_fine : (e : A) → ◌≡◌ {A = Result (Unit {0}) A} (Err e) (Ok tt) → ⊥
  not_fine e h = let z : ◌≡◌ {A = ℕ} 0 1 = cc in omega arith

  -- a chain of tests that passes passed this one
  pub passed : (b : Bool) (x : Result (Unit {0}) A) (e : A) → cond b x (Err e) ≡ Ok tt → (b ≡ true) × (x ≡ Ok tt)
  passed true x e h = (refl, h)
  passed false x e h = absurd (not_fine e h)

  pub failed : (b : Bool) (e : A) (x : Result (Unit {0}) A) → cond b (Err e) x ≡ Ok tt → (b ≡ false) × (x ≡ Ok tt)
  failed true e x h = absurd (not_fine e h)
  failed false e x h = (refl, h)

  -- of two tests the first that fails
  pub then_fine : (a b : Result (Unit {0}) A) → and_then a b ≡ Ok tt → (a ≡ Ok tt) × (b ≡ Ok tt)
  unfolding and_then
  then_fine (Ok passed) b h = (refl, h)
  then_fine (Err e) b h = absurd (not_fine e h)

  pub then_later : (a b : Result (Unit {0}) A) → a ≡ Ok tt → and_then a b ≡ b
  unfolding and_then
  then_later (Ok passed) b h = refl
  then_later (Err e) b h = absurd (not_fine e h)

  pub then_first : (a b : Result (Unit {0}) A) → (a ≡ Ok tt → ⊥) → and_then a b ≡ a
  unfolding and_then
  then_first (Ok passed) b h = absurd (h refl)
  then_first (Err e) b h = refl

-- a test at a place passes as it does without
pub at_fine : (place : ℕ) (test : Test) → at place test ≡ Ok tt → test ≡ fine
at_fine place (Ok passed) h = refl
at_fine place (Err fault) h = absurd (not_fine _ h)
