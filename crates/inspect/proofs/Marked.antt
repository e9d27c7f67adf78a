-- The sites by one bit per node: while each is new, none is faulty.
use mathlib.Core.Path.{◌≡◌, refl, sym, ap, subst, ◌∙◌}
use mathlib.Core.Bool.{true, or-true}
use mathlib.Core.List.{List}
use Prim.Native.Nat.{ℕ, zero, suc, ◌+◌, ◌-◌, ◌<◌}
use native.Mathlib.Decide.{dec_lt}
use native.Mathlib.Omega.{arith}
use borrow.Author.Tests.{eq-eqb, ne_eqb}
use lib.Dec.{eqb}
use lib.ListN.{get_or}
use Rattle.std.proofs.Common.{Ok, false}
use Rattle.meaning.specs.Limits.{base, and_then}
use Rattle.meaning.specs.Scan.{any}
use Rattle.meaning.specs.Region.{Tables}
use Rattle.meaning.specs.Checks.{first_fault, site_fault}
use Rattle.meaning.proofs.Tests.{not_both}
use Rattle.reading.specs.Marks.{is_marked, Added}
use Rattle.inspect.specs.Sites.{New}
use Rattle.inspect.proofs.Faults.{first_more}

-- a mark stays, and the new one is there
still : (seen after : List ℕ) (k a : ℕ) → Added seen k after → is_marked seen a ≡ true → is_marked after a ≡ true
still seen after k a h m = h.bits a ∙ rw (m, or-true (eqb a k))

there : (seen after : List ℕ) (k : ℕ) → Added seen k after → is_marked after k ≡ true
there seen after k h = h.bits k ∙ rw (eq-eqb k k refl)

pub none_given : (xs : List ℕ) (v j : ℕ) → ((i : ℕ) → i < j → get_or xs i 0 ≡ v → ⊥) → any (λ i. eqb (get_or xs i 0) v) j ≡ false
unfolding any
none_given xs v zero q = refl
none_given xs v (suc j) q = rw (none_given xs v j (λ i l. q i (omega arith)), ne_eqb (get_or xs j 0) v (q j (omega arith)))

-- the first j sites stand and are marked
pub record Stood (t : Tables) (seen : List ℕ) (j : ℕ) : Type 0 where
  pub fine : first_fault (site_fault base t) j ≡ Ok tt
  pub marked : (i : ℕ) → i < j → is_marked seen (get_or t.sites i 0 - 1) ≡ true

module _ (t : Tables) (seen : List ℕ) where
  pub stood_none : Stood t seen 0
  unfolding first_fault
  stood_none = record { fine = refl; marked = λ i l. absurd (omega arith) }

  pub stood_more : (after : List ℕ) (j : ℕ) → Stood t seen j → New seen (get_or t.sites j 0) t.n after → Stood t after (j + 1)
  unfolding site_fault and_then
  stood_more after j h new = record {
    fine = first_more (site_fault base t) j h.fine (rw (new.node, none_given t.sites (get_or t.sites j 0) j apart));
    marked = λ i l. go i l (dec_lt i j);
  }
    where
      apart : (i : ℕ) → i < j → get_or t.sites i 0 ≡ get_or t.sites j 0 → ⊥
      apart i l q = not_both (sym new.unmarked ∙ ap (λ (x : ℕ). is_marked seen (x - 1)) (sym q) ∙ h.marked i l)

      go : (i : ℕ) → i < j + 1 → Dec (i < j) → is_marked after (get_or t.sites i 0 - 1) ≡ true
      go i l (yes z) = still seen after (get_or t.sites j 0 - 1) (get_or t.sites i 0 - 1) new.added (h.marked i z)
      go i l (no z) = subst (λ (x : ℕ). is_marked after (get_or t.sites x 0 - 1) ≡ true) (omega arith) (there seen after (get_or t.sites j 0 - 1) new.added)
