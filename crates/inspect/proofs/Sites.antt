-- One site, against all earlier ones.
use mathlib.Core.Path.{◌≡◌, refl}
use mathlib.Core.Bool.{Bool, true, false}
use mathlib.Core.List.{List}
use Prim.Native.Nat.{ℕ, ◌+◌, ◌<◌}
use native.Mathlib.Numerals.{add-one}
use borrow.Author.Tests.{eq-eqb, ne_eqb}
use lib.Dec.{eqb}
use lib.ListN.{get_or}
use Rattle.std.proofs.Common.{Err}
use Rattle.meaning.specs.Limits.{base, fine, and_then}
use Rattle.meaning.specs.Files.{within}
use Rattle.meaning.specs.Scan.{any}
use Rattle.meaning.specs.Region.{Tables}
use Rattle.meaning.specs.Checks.{site_fault}
use Rattle.meaning.specs.declared.Fault.TheVariants.{NodeOutside, GivenTwice}
use Rattle.meaning.proofs.Bools.{T_true, true_T}
use Rattle.meaning.proofs.Scans.{any_of}

-- whether the number is among the first i sites
abbrev pub among : List ℕ → ℕ → ℕ → Bool
among sites number i = any (λ h. eqb (get_or sites h 0) number) i

pub among_none : (sites : List ℕ) (number : ℕ) → among sites number 0 ≡ false
unfolding any
among_none sites number = refl

pub among_more : (sites : List ℕ) (number i : ℕ) → among sites number i ≡ false → (get_or sites i 0 ≡ number → ⊥) → among sites number (i + 1) ≡ false
unfolding any
among_more sites number i e q = rw (add-one, e, ne_eqb (get_or sites i 0) number q)

pub among_hit : (sites : List ℕ) (number i j : ℕ) → i < j → get_or sites i 0 ≡ number → among sites number j ≡ true
among_hit sites number i j l q = T_true _ (any_of (λ h. eqb (get_or sites h 0) number) j i l (true_T _ (eq-eqb (get_or sites i 0) number q)))

-- what is found of site j is its fault
module _ (t : Tables) (j : ℕ) where
  pub site_outside : within 1 (get_or t.sites j 0) t.n ≡ false → Err NodeOutside ≡ site_fault base t j
  unfolding site_fault and_then
  site_outside e = rw e

  pub site_twice : within 1 (get_or t.sites j 0) t.n ≡ true → among t.sites (get_or t.sites j 0) j ≡ true → Err GivenTwice ≡ site_fault base t j
  unfolding site_fault and_then
  site_twice e a = rw (e, a)

  pub site_fine : within 1 (get_or t.sites j 0) t.n ≡ true → among t.sites (get_or t.sites j 0) j ≡ false → fine ≡ site_fault base t j
  unfolding site_fault and_then
  site_fine e a = rw (e, a)
