-- "Straight line and road": the straight line between two nodes, rounded down, and the test of an arc.
use Rattle.std.specs.Prelude.{Bool, cond, ℕ, zero, suc, ◌+◌, ◌*◌, leb, ℤ, nat_abs, ◌-ℤ◌}

-- dx or dy: how far two coordinates are apart
unfoldable pub gap : ℤ → ℤ → ℕ
gap a b = nat_abs (a -ℤ b)

-- the largest whole number up to c whose square is at most a
unfoldable pub root_to : ℕ → ℕ → ℕ
root_to a zero = 0
root_to a (suc c) = cond (leb (suc c * suc c) a) (suc c) (root_to a c)

-- "the largest whole number whose square is at most" a
unfoldable pub root : ℕ → ℕ
root a = root_to a a

-- of the nodes with coordinates x and y
module _ (x y : ℕ → ℤ) where
  -- "dx squared plus dy squared"
  abbrev pub squares : ℕ → ℕ → ℕ
  squares u v = gap (x u) (x v) * gap (x u) (x v) + gap (y u) (y v) * gap (y u) (y v)

  -- "The straight line between two nodes", d_E
  unfoldable pub straight : ℕ → ℕ → ℕ
  straight u v = root (squares u v)

  -- "An arc passes test 10 exactly if weight squared is at least dx squared plus dy squared."
  abbrev pub long_enough : ℕ → ℕ → ℕ → Bool
  long_enough u v w = leb (squares u v) (w * w)
