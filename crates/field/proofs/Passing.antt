-- Parts of an array that are bytes, one after the other: where those that are left end is where all end, and one that is no byte ends none.
-- Each law in the shape of a need of the code. Assumes nothing.
use mathlib.Core.Path.{◌≡◌, refl, sym, ap, ap₂, ◌∙◌}
use mathlib.Core.{List.List, List.◌∷◌, Option.Option, Option.some, Option.none}
use Prim.Native.Nat.{ℕ, zero, suc, ◌+◌, ◌-◌, ◌≤◌, ◌<◌}
use native.Mathlib.Nat.{add-zero, sub-zero}
use native.Mathlib.Omega.{arith}
use lib.ListN.{get_or}
use Rattle.element.specs.{Form.span_of, Code.At.leaf_at}
use Rattle.number.specs.Number.{number_of}
use Rattle.std.specs.Prelude.{Option as Answer, Some, None}
use Rattle.field.specs.declared.{Octet.Octet, Piece.Piece}
use Rattle.field.specs.Judge.{on_some, octet_in, naturals_in, octets_in}
use Rattle.field.specs.Code.At.{end_of, leaves_from, leaves_end}
use Rattle.field.specs.Code.Item.{octet_by, octet_at, LowRun, naturals_from, octets_from, piece_by, octets_passed}
use Rattle.field.proofs.{Arrays.length_naturals, Octets.octet, Runs.run_octet}

-- the place behind n parts, where all are bytes
unfoldable pub octets_end : List ℕ → ℕ → ℕ → Option ℕ
octets_end s n at = on_some (octets_from s n at) (λ d. some (leaves_end s n at))

abbrev behind : Answer Octet → (ℕ → Option ℕ) → Option ℕ
behind None f = none
behind (Some o) f = f o.next

abbrev pub piece : ℕ → ℕ → Piece
piece n next = record { size = n; next = next }

same_end : (v p : ℕ) (o : Option (List ℕ)) → on_some (on_some o (λ bs. some (v ∷ bs))) (λ d. some p) ≡ on_some o (λ d. some p)
same_end v p none = refl
same_end v p (some bs) = refl

end_more : (s : List ℕ) (j q : ℕ) → octets_end s (suc j) q ≡ behind (octet_at s q) (octets_end s j)
unfolding octets_end naturals_from naturals_in leaves_from leaves_end octet_at
end_more s j q = go (octet_in (number_of (leaf_at s q)))
  where
    go : (o : Option ℕ) → on_some (on_some o (λ b. on_some (octets_in (leaves_from s j (end_of q (span_of s q)))) (λ bs. some (b ∷ bs)))) (λ d. some (leaves_end s j (end_of q (span_of s q))))
        ≡ behind (octet_by o (end_of q (span_of s q))) (λ n. on_some (octets_in (leaves_from s j n)) (λ d. some (leaves_end s j n)))
    go none = refl
    go (some b) = same_end b (leaves_end s j (end_of q (span_of s q))) (octets_in (leaves_from s j (end_of q (span_of s q))))

-- one part, of k that are left
module _ (s : List ℕ) (k q : ℕ) (r : Option ℕ) (g : octets_end s k q ≡ r) where
  module _ (x : Answer Octet) (p : 0 < k) (e : x ≡ octet_at s q) where
    end_by : behind x (octets_end s (k - 1)) ≡ r
    end_by =
        let j : suc (k - 1) ≡ k = omega arith in
        ap (λ (y : Answer Octet). behind y (octets_end s (k - 1))) e ∙ sym (end_more s (k - 1) q) ∙ ap (λ (n : ℕ). octets_end s n q) j ∙ g

    pub end_next : (o : Octet) → x ≡ Some o → octets_end s (k - 1) o.next ≡ r
    end_next o y = ap (λ (z : Answer Octet). behind z (octets_end s (k - 1))) (sym y) ∙ end_by

    end_unfit : x ≡ None → none ≡ r
    end_unfit y = ap (λ (z : Answer Octet). behind z (octets_end s (k - 1))) (sym y) ∙ end_by

  end_done : k ≤ 0 → some q ≡ r
  unfolding octets_end naturals_from naturals_in leaves_from leaves_end
  end_done h =
      let z : 0 ≡ k = omega arith in
      ap (λ (n : ℕ). octets_end s n q) z ∙ g

-- what is said of n parts, by that place
module _ (s : List ℕ) (n from : ℕ) where
  passed_to : (p : ℕ) → some p ≡ octets_end s n from → Some (piece n p) ≡ octets_passed s n from
  unfolding octets_passed octets_end
  passed_to p e = go (octets_from s n from) refl e
    where
      go : (o : Option (List ℕ)) → octets_from s n from ≡ o → some p ≡ on_some o (λ d. some (leaves_end s n from)) → Some (piece n p) ≡ piece_by o (leaves_end s n from)
      go none q g = absurd (let z : ◌≡◌ {A = ℕ} 0 1 = cc in omega arith)
      go (some d) q g = ap₂ (λ (m e : ℕ). Some (piece m e)) (sym (length_naturals 255 s n from d q)) (cc)

  passed_not : none ≡ octets_end s n from → None ≡ octets_passed s n from
  unfolding octets_passed octets_end
  passed_not e = go (octets_from s n from) e
    where
      go : (o : Option (List ℕ)) → none ≡ on_some o (λ d. some (leaves_end s n from)) → None ≡ piece_by o (leaves_end s n from)
      go none g = refl
      go (some d) g = absurd (let z : ◌≡◌ {A = ℕ} 0 1 = cc in omega arith)

  module _ (k q : ℕ) (g : octets_end s k q ≡ octets_end s n from) where
    pub passed_all : k ≤ 0 → Some (piece n q) ≡ octets_passed s n from
    passed_all h = passed_to q (end_done s k q (octets_end s n from) g h)

    pub passed_stop : (x : Answer Octet) → 0 < k → x ≡ octet_at s q → x ≡ None → None ≡ octets_passed s n from
    passed_stop x p e y = passed_not (end_unfit s k q (octets_end s n from) g x p e y)

  -- behind the first parts of a run
  pub run_passed : (r : ℕ) → LowRun s from n r → (i : ℕ) → i ≤ r → octets_end s (n - i) (from + i) ≡ octets_end s n from
  run_passed r y zero h = rw (sub-zero, add-zero)
  run_passed r y (suc i) h =
      let j : n - i - 1 ≡ n - suc i = omega arith in
      let k : from + i + 1 ≡ from + suc i = omega arith in
      rw (j, k) at
      (end_next s (n - i) (from + i) (octets_end s n from) (run_passed r y i (omega arith)) (Some (octet (get_or s (from + i) 0) (from + i + 1))) (omega (arith, y.few))
      (run_octet s from n r y i (omega arith)) (octet (get_or s (from + i) 0) (from + i + 1)) refl)

-- by how many are read
module _ (s : List ℕ) (n from i q : ℕ) (g : octets_end s (n - i) q ≡ octets_end s n from) where
  pub octets_next : (x : Answer Octet) → i < n → x ≡ octet_at s q → (o : Octet) → x ≡ Some o → octets_end s (n - (i + 1)) o.next ≡ octets_end s n from
  octets_next x h e o y =
      let z : n - i - 1 ≡ n - (i + 1) = omega arith in
      rw z at (end_next s (n - i) q (octets_end s n from) g x (omega arith) e o y)

  pub octets_all : n ≤ i → Some (record { size = n; next = q }) ≡ octets_passed s n from
  octets_all h = passed_all s n from (n - i) q g (omega arith)

  pub octets_stop : (x : Answer Octet) → i < n → x ≡ octet_at s q → x ≡ None → None ≡ octets_passed s n from
  octets_stop x h e y = passed_stop s n from (n - i) q g x (omega arith) e y

pub ruleset passings = (octets_next, octets_all, octets_stop, run_passed, arith)
