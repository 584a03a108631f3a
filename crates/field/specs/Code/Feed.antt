-- For the private readers: a version byte by byte. No statement of a public function rests on this page.
use Rattle.std.specs.Prelude.{ℕ, zero, suc, ◌+◌, ◌-◌, ◌*◌, Bool, true, false, ◌&&◌, leb, eqb, Option, Some, None}
use mathlib.Core.{List.List, List.[], List.◌∷◌}
use mathlib.Core.Option as maybe
use Rattle.octets.specs.Choice.{either}
use Rattle.field.specs.declared.Release.{Release}
use Rattle.field.specs.Kind.{Value}

abbrev pub release : ℕ → Bool → ℕ → ℕ → ℕ → Release
release dots digit a b n = record { dots = dots; digit = digit; first = a; second = b; number = n }

abbrev pub unfed : Release
unfed = release 0 false 0 0 0

-- behind a number, the first dot and the second
abbrev pub dot_by : Release → ℕ → Option Release
dot_by v zero = Some (release 1 false v.number 0 0)
dot_by v (suc zero) = Some (release 2 false v.first v.number 0)
dot_by v (suc (suc n)) = None

unfoldable pub dotted_of : Release → Option Release
dotted_of v = either v.digit (λ _. dot_by v v.dots) (λ _. None)

-- a digit more, where it makes no leading zero and no number over 65,535
unfoldable pub digit_of : Release → ℕ → Option Release
digit_of v d =
    either (v.digit && eqb v.number 0) (λ _. None)
    (λ _. either (leb (v.number * 10 + d) 65535)
    (λ _. Some (release v.dots true v.first v.second (v.number * 10 + d)))
    (λ _. None))

unfoldable pub fed_of : Release → ℕ → Option Release
fed_of v c = either (eqb c 0x2E) (λ _. dotted_of v) (λ _. either (leb 0x30 c && leb c 0x39) (λ _. digit_of v (c - 0x30)) (λ _. None))

abbrev pub on_fed : Option Release → (Release → Option Release) → Option Release
on_fed (Some v) f = f v
on_fed None f = None

unfoldable pub fed_all : Release → List ℕ → Option Release
fed_all v [] = Some v
fed_all v (c ∷ cs) = on_fed (fed_of v c) (λ w. fed_all w cs)

-- the version, where all its numbers are there
abbrev pub outcome_of : Option Release → maybe.Option Value
outcome_of None = maybe.none
outcome_of (Some v) = either (eqb v.dots 2 && v.digit) (λ _. maybe.some (Value.release v.first v.second v.number)) (λ _. maybe.none)
