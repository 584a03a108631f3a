-- A payload's size: what is known of a size that passed. Assumes nothing.
use mathlib.Core.{Path.◌≡◌, Path.sym, Bool.true}
use Prim.Native.Nat.{ℕ, ◌≤◌, ◌<◌}
use lib.Dec.{leb, leb→le}
use borrow.Author.Tests.{le-leb}
use Rattle.octets.specs.Size.{is_size}
use Rattle.octets.proofs.Ranges.{true_is, both_left, both_right}

module _ (n : ℕ) where
  pub size_is : 1 ≤ n → n ≤ 4096 → is_size n ≡ true
  unfolding is_size
  size_is f g = simp (le-leb 1 n f, le-leb n 4096 g)

  module _ (e : is_size n ≡ true) where
    pub sized_some : 0 < n
    unfolding is_size
    sized_some = leb→le 1 n (both_left (leb 1 n) (leb n 4096) (true_is (is_size n) (sym e)))

    pub sized_most : n ≤ 4096
    unfolding is_size
    sized_most = leb→le n 4096 (both_right (leb 1 n) (leb n 4096) (true_is (is_size n) (sym e)))
