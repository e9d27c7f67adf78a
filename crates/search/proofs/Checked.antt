-- What the search's checks have shown of the tables, as the search's parts ask it.
use mathlib.Core.Path.{◌≡◌}
use mathlib.Core.Bool.{true}
use Prim.Native.Nat.{ℕ, ◌-◌, ◌≤◌, ◌<◌}
use native.Mathlib.Omega.{arith}
use borrow.Author.Tests.{leb-true}
use lib.Dec.{leb}
use lib.ListN.{length}
use Rattle.meaning.specs.Limits.{base}
use Rattle.meaning.specs.Checks.{tables_fit}
use Rattle.meaning.specs.Region.{Tables, region_of}
use Rattle.meaning.specs.Search.{aim_of}
use Rattle.meaning.proofs.Tests.{both}
use Rattle.meaning.proofs.Relaxing.{Setting}
use Rattle.meaning.proofs.Passed.{Sound as Accepted, sound as accepted, sound_setting}
use Rattle.meaning.proofs.Outcomes.{aim_fits}
use Rattle.memory.specs.Region.{Sound}
use Rattle.search.specs.Run.{Passed}

record Rows (t : Tables) : Type 0 where
  pub tails : t.m ≤ length t.tails
  pub heads : t.m ≤ length t.heads
  pub weights : t.m ≤ length t.weights
  pub xs : t.n ≤ length t.xs
  pub ys : t.n ≤ length t.ys
  pub sites : t.s ≤ length t.sites

rows : (t : Tables) → tables_fit t ≡ true → Rows t
rows t e =
    let a = both (leb t.m (length t.tails)) _ e in
    let b = both (leb t.m (length t.heads)) _ a.1 in
    let c = both (leb t.m (length t.weights)) _ b.1 in
    let d = both (leb t.n (length t.xs)) _ c.1 in
    let f = both (leb t.n (length t.ys)) _ d.1 in
    record {
      tails = leb-true _ _ a.0;
      heads = leb-true _ _ b.0;
      weights = leb-true _ _ c.0;
      xs = leb-true _ _ d.0;
      ys = leb-true _ _ f.0;
      sites = leb-true _ _ f.1;
    }

module _ {t : Tables} {q k : ℕ} (P : Passed t q k) where
  pub S : Accepted base t q k P.rooms
  S = accepted base t q k P.rooms P.fine

  pub G : Setting (region_of t) (aim_of t) (q - 1)
  G = sound_setting S (aim_of t) (aim_fits S)

  pub query_low : 1 ≤ q
  query_low = S.query.0

  pub query_below : q - 1 < t.n
  query_below = G.below

  -- the region that the search is over
  pub sound : Sound t
  sound =
      let r = rows t S.tables in
      record {
        some_node = S.nodes.0;
        few_nodes = S.nodes.1;
        few_arcs = S.arcs;
        few_sites = S.sites;
        ground = record {
          points = λ v l. record { x_room = omega arith; y_room = omega arith; x_near = (S.points v l).0; y_near = (S.points v l).1 };
          room = r.sites;
          low = λ j l. (S.stands j l).low;
          high = λ j l. (S.stands j l).high;
        };
        arcs = record {
          nodes = S.nodes.1;
          tail_room = r.tails;
          head_room = r.heads;
          weight_room = r.weights;
          tail_low = λ i l. (S.good i l).fine.tail_low;
          tail_high = λ i l. (S.good i l).fine.tail_high;
          head_low = λ i l. (S.good i l).fine.head_low;
          head_high = λ i l. (S.good i l).fine.head_high;
          light = λ i l. (S.good i l).fine.weight_high;
        };
      }
