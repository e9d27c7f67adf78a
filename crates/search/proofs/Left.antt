-- The sites that are left: how many, by how many have been listed.
use mathlib.Core.Path.{◌≡◌, refl, sym, ap, ◌∙◌}
use mathlib.Core.Bool.{Bool, true, false, not, cond, ◌||◌, ◌&&◌}
use Prim.Native.Nat.{ℕ, zero, suc, ◌+◌, ◌-◌, ◌<◌}
use native.Mathlib.Omega.{arith}
use borrow.Author.Tests.{le-leb, lt-leb, lt-ltb}
use lib.Dec.{T, not_T, eqb, ltb, leb, eqb→eq, eqb_refl}
use lib.ListN.{length}
use Rattle.meaning.specs.Scan.{any}
use Rattle.meaning.specs.Region.{Tables, ArcOf, region_of, is_site}
use Rattle.meaning.specs.Taking.{State, memb, taken, aimed, bit}
use Rattle.meaning.proofs.Bools.{T_true, T_false, or_right}
use Rattle.meaning.proofs.Counting.{count, count_none, count_more}
use Rattle.meaning.proofs.Scans.{any_is}
use Rattle.meaning.proofs.Orders.{asc_count}
use Rattle.meaning.proofs.Listed.{Listed, Earlier, earlier_asym, sites_in, sites_of_lem, listed_after}
use Rattle.search.specs.Run.{Passed, state_at, sites_at}
use Rattle.search.proofs.Checked.{S, G}

bit_more : (b : Bool) (x : ℕ) → cond b (suc x) x ≡ x + bit b
bit_more true x = omega arith
bit_more false x = omega arith

-- where each number passes P or A, but not both, exactly if it passes Q
counts_add : (Q P A : ℕ → Bool) → ((v : ℕ) → bit (Q v) ≡ bit (P v) + bit (A v)) → (n : ℕ) → count Q n ≡ count P n + count A n
unfolding count
counts_add Q P A h zero = refl
counts_add Q P A h (suc i) =
    let e = counts_add Q P A h i in
    let b = h i in
    rw (bit_more (Q i) (count Q i), bit_more (P i) (count P i), bit_more (A i) (count A i)) (omega arith)

any_counts : (A : ℕ → Bool) (n : ℕ) → any A n ≡ ltb 0 (count A n)
unfolding any count
any_counts A zero = refl
any_counts A (suc i) = go (any A i) (A i) (any_counts A i)
  where
    go : (a b : Bool) → a ≡ ltb 0 (count A i) → (a || b) ≡ ltb 0 (cond b (suc (count A i)) (count A i))
    go true true e = sym (lt-ltb 0 (suc (count A i)) (omega arith))
    go false true e = sym (lt-ltb 0 (suc (count A i)) (omega arith))
    go true false e = e
    go false false e = e

-- of s numbers c are left out of A: none is in A exactly if c are all
pub none_left : (A : ℕ → Bool) (n s c : ℕ) → s ≡ c + count A n → not (any A n) ≡ leb s c
none_left A n s c e = rw any_counts (go (count A n) e)
  where
    go : (x : ℕ) → s ≡ c + x → not (ltb 0 x) ≡ leb s c
    go zero z = sym (le-leb s c (omega arith))
    go (suc x) z = rw (lt-ltb 0 (suc x) (omega arith), lt-leb s c (omega arith))

-- s different nodes below n are s nodes
sites_count : (site : ℕ → ℕ) (n s : ℕ) → ((j : ℕ) → j < s → site j < n) → ((i j : ℕ) → i < j → j < s → site i ≡ site j → ⊥) → count (λ v. any (λ j. eqb (site j) v) s) n ≡ s
unfolding any
sites_count site n zero low apart = count_none (λ v. false) n (λ v. refl)
sites_count site n (suc s) low apart =
    count_more (λ v. any (λ j. eqb (site j) v) s) (λ v. any (λ j. eqb (site j) v) s || eqb (site s) v) (site s) n (low s (omega arith)) new (T_true _ here) other
    ∙ ap suc (sites_count site n s (λ j l. low j (omega arith)) (λ i j l m. apart i j l (omega arith)))
  where
    new : any (λ j. eqb (site j) (site s)) s ≡ false
    new =
        T_false (any (λ j. eqb (site j) (site s)) s)
        (not_T (any (λ j. eqb (site j) (site s)) s) (λ z. let r = any_is (λ j. eqb (site j) (site s)) s z in apart r.0 s r.1 (omega arith) (eqb→eq (site r.0) (site s) r.2)))

    here : T (any (λ j. eqb (site j) (site s)) s || eqb (site s) (site s))
    here = or_right (any (λ j. eqb (site j) (site s)) s) (eqb (site s) (site s)) (eqb_refl (site s))

    other : (v : ℕ) → (v ≡ site s → ⊥) → (any (λ j. eqb (site j) v) s || eqb (site s) v) ≡ any (λ j. eqb (site j) v) s
    other v z = go (any (λ j. eqb (site j) v) s) (eqb (site s) v) (λ t. z (sym (eqb→eq (site s) v t)))
      where
        go : (a b : Bool) → (T b → ⊥) → (a || b) ≡ a
        go a true x = absurd (x tt)
        go true false x = refl
        go false false x = refl

-- whether v is listed, and whether it is aimed at, where k says whether it is taken
parts : (q p k : Bool) → (T p → T k × T q) → (T k → T q → T p) → bit q ≡ bit p + bit (q && not k)
parts true true true f g = refl
parts true true false f g = absurd (f tt).0
parts true false true f g = absurd (g tt tt)
parts true false false f g = refl
parts false true k f g = absurd (f tt).1
parts false false k f g = refl

module _ {t : Tables} {q k : ℕ} (P : Passed t q k) (i : ℕ) where
  abbrev st : State
  st = state_at t q k i

  L : Listed (region_of t) (q - 1) k st
  L = listed_after (G P) k i

  -- the sites are those listed and those aimed at
  pub sites_are : t.s ≡ length (sites_at t st) + count (aimed (region_of t) st) t.n
  unfolding is_site aimed taken
  sites_are =
      sym (sites_count (region_of t).site t.n t.s (G P).valid.sites distinct)
      ∙ counts_add (is_site (region_of t)) (λ v. memb v (sites_at t st)) (aimed (region_of t) st) each t.n
      ∙ ap (λ (x : ℕ). x + count (aimed (region_of t) st) t.n) (asc_count (Earlier (ArcOf (region_of t)) (q - 1)) (λ x e. earlier_asym (ArcOf (region_of t)) (q - 1) x x e e) t.n (sites_at t st) L.asc inside)
    where
      distinct : (a b : ℕ) → a < b → b < t.s → (region_of t).site a ≡ (region_of t).site b → ⊥
      distinct a b l m e = let x = (S P).stands a (omega arith) in let y = (S P).stands b m in (S P).distinct a b l m (omega arith)

      each : (v : ℕ) → bit (is_site (region_of t) v) ≡ bit (memb v (sites_at t st)) + bit (aimed (region_of t) st v)
      each v = parts (is_site (region_of t) v) (memb v (sites_at t st)) (taken st v) (sites_in (region_of t) st.order v) (sites_of_lem (region_of t) st.order v)

      inside : (v : ℕ) → T (memb v (sites_at t st)) → v < t.n
      inside v z = L.inv.nodes v (sites_in (region_of t) st.order v z).0
