-- The parts that this record has beside saying's are read back as they were, from the cell that is shown for them: lent bytes, a version, and a part
-- that must pass a test besides. Assumes nothing.
use mathlib.Core.Path.{◌≡◌, refl, sym, ◌∙◌}
use mathlib.Core.Bool.{Bool, ◌&&◌}
use mathlib.Core.{List.List, Option.none}
use Prim.Native.Nat.{ℕ}
use lib.Dec.{T, eqb, leb, eqb→eq, leb→le}
use lib.{ListN.length, ListN.take, Seq.length-take-le}
use Rattle.octets.proofs.{Ranges.both_left, Ranges.both_right, Truth.none_some}
use Rattle.field.specs.{Kind.Kind, Kind.Value, Cell.Cell}
use Rattle.message.specs.Record.{word_in, version_in, maybe_of}
use Rattle.message.specs.declared.{Maybe.Maybe, Version.Version}
use Rattle.saying.specs.Says.{Part, string, release_value, no_release}
use Rattle.saying.specs.Says as Says
use Rattle.saying.proofs.{Shown.Shown, Shown.kept_by, Shown.Shown.spoken, Shown.Shown.silent}
use Rattle.saying.proofs.Parts.{always_back, field_back}
use Rattle.record.specs.{Record.bytes_in, Says.tested, Says.lent}

-- a part that says nothing
pub unsaid : {k : Kind} {p : Part} {c : Cell} → Shown k p c → p.said ≡ none → c ≡ Cell.missing
unsaid (spoken v e t w) n = none_some (sym n ∙ e)
unsaid (silent e t) n = refl

-- a part that must pass a test
pub untested : (b : Bool) (p : Part) {k : Kind} {c : Cell} → Shown k (tested b p) c → Shown k p c
untested b p (spoken v e t w) = spoken v e (both_right b p.clean t) w
untested b p (silent e t) = silent e (both_right b p.clean t)

pub passed : (b : Bool) (p : Part) {k : Kind} {c : Cell} → Shown k (tested b p) c → T b
passed b p (spoken v e t w) = both_left b p.clean t
passed b p (silent e t) = both_left b p.clean t

-- lent bytes, and their number
pub lent_back : (n : ℕ) (d : List ℕ) (k : Kind) → kept_by k (Value.string (take n d)) ≡ Value.string (take n d) → {c : Cell} → Shown k (lent n d) c
    → (bytes_in c ≡ take n d) × (word_in c ≡ n)
lent_back n d k keeps s =
    let enough = leb→le n (length d) (passed (leb n (length d)) (string (take n d)) s) in
    rw (always_back k (Value.string (take n d)) (untested (leb n (length d)) (string (take n d)) s), keeps) (refl, length-take-le n d enough)

-- a version
no_release_lem : (v : Version) → T (no_release v) → record { major = 0; minor = 0; patch = 0 } ≡ v
no_release_lem v t =
    let r = both_right (eqb v.major 0) (eqb v.minor 0 && eqb v.patch 0) t in
    λ i. record {
      major = sym (eqb→eq v.major 0 (both_left (eqb v.major 0) (eqb v.minor 0 && eqb v.patch 0) t)) i;
      minor = sym (eqb→eq v.minor 0 (both_left (eqb v.minor 0) (eqb v.patch 0) r)) i;
      patch = sym (eqb→eq v.patch 0 (both_right (eqb v.minor 0) (eqb v.patch 0) r)) i;
    }

pub version_back : (m : Maybe Version) {c : Cell} → Shown Kind.versions (Says.version_if m) c → maybe_of version_in c ≡ m
version_back m s = field_back version_in Kind.versions m (release_value m.value) (no_release m.value) refl (no_release_lem m.value) s
