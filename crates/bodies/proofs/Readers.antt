-- One field at its place, each law in the shape of a need of the code: its fault among those before it, and its value. Assumes nothing.
use mathlib.Core.Path.{◌≡◌, refl, sym, ap, ◌∙◌}
use mathlib.Core.{Bool.Bool, Bool.true, Bool.false, List.List}
use Prim.Native.Nat.{ℕ, ◌+◌, ◌-◌, ◌*◌, ◌%◌, ◌^◌, ◌≤◌, ◌<◌, max}
use native.Mathlib.Omega.{arith}
use lib.{IntN.ℤ}
use mir.Syntax.{w32, w64}
use mir.Val.{SFits, of_z, to_z}
use mir.ValLaws.{to_z-of_z}
use Rattle.octets.specs.Signed.{signed_of}
use Rattle.std.specs.Prelude.{Option, Some, None, Result, is_ok}
use Rattle.std.specs.Result.{result_err, result_unwrap_or}
use Rattle.field.specs.declared.{Released.Released, Flaw.Flaw, Flaw.TheVariants.Invalid, Flaw.TheVariants.Missing, Flaw.TheVariants.Twice}
use Rattle.field.specs.Kind.{Kind, signed32, user_bytes, profile_text, status_text}
use Rattle.field.specs.{Cell.Cell, Cell.here, Code.At.cell_at}
use Rattle.field.specs.{Cell.value_in, Cell.word_of, Cell.figure_of, Cell.mark_of, Cell.position_of, Cell.release_of, Kind.Value, Code.Told.told_of}
use Rattle.message.specs.Record.{word_in, figure_in, id_in, mark_in, position_in, version_in, maybe_of}
use Rattle.message.specs.Reading.{cell_fault, graded}
use Rattle.bodies.specs.Code.Held.{flaw_of, fault_of, rank_of, judged_as, held_as, parts_in}
use Rattle.bodies.proofs.Worth.{Most, worth, cell_most, told_flaw, told_here, told_value, id_word, code_word}

-- a fault's grade
pub grade_is : (f : Flaw) (i r : ℕ) → r ≡ rank_of f → r * 64 + (63 - i) ≡ graded (rank_of f) i
grade_is Invalid i r e = rw e
grade_is Missing i r e = rw e
grade_is Twice i r e = rw e

pub ruleset grades = (grade_is, arith)

abbrev grade_by : Option Flaw → ℕ → ℕ
grade_by None i = 0
grade_by (Some f) i = graded (rank_of f) i

fault_grade : (must : Bool) (c : Cell) (i : ℕ) → graded (cell_fault must c) i ≡ grade_by (fault_of must (flaw_of c)) i
fault_grade must (Cell.good v) i = refl
fault_grade must Cell.bad i = refl
fault_grade must Cell.double i = refl
fault_grade true Cell.missing i = refl
fault_grade false Cell.missing i = refl

module _ (w i : ℕ) (must : Bool) (o flaw : Option Flaw) (e : o ≡ fault_of must flaw) where
  by_fault : (x : Option Flaw) → o ≡ x → (c : Cell) → flaw ≡ flaw_of c → max w (grade_by x i) ≡ judged_as must i c w
  unfolding judged_as
  by_fault x y c z =
      ap (λ (f : Option Flaw). max w (grade_by f i)) (sym y ∙ e ∙ ap (fault_of must) z) ∙ ap (max w) (sym (fault_grade must c i))

  pub passed_none : o ≡ None → (c : Cell) → flaw ≡ flaw_of c → w ≡ judged_as must i c w
  passed_none y c z = let m : w ≡ max w 0 = omega arith in m ∙ by_fault None y c z

  pub passed_some : (f : Flaw) → o ≡ Some f → (g r : ℕ) → g ≡ graded (rank_of f) i → r ≡ max w g → (c : Cell) → flaw ≡ flaw_of c → r ≡ judged_as must i c w
  passed_some f y g r h q c z = q ∙ ap (max w) h ∙ by_fault (Some f) y c z

pub ruleset passes = (passed_none, passed_some)

-- what is told of a cell, by the methods of `Result`
module _ {A : Type 0} (f : Value → A) (c : Cell) (j : Result A Flaw) (e : j ≡ told_of f c) where
  pub flaw_told : (o : Option Flaw) → o ≡ result_err j → o ≡ flaw_of c
  flaw_told o q = q ∙ ap (λ (x : Result A Flaw). result_err x) e ∙ told_flaw f c

  pub here_told : (b : Bool) → b ≡ is_ok j → b ≡ here c
  here_told b q = q ∙ ap (λ (x : Result A Flaw). is_ok x) e ∙ told_here f c

  pub value_told : (v : A) → v ≡ result_unwrap_or j (f Value.nothing) → v ≡ f (value_in c)
  value_told v q = q ∙ ap (λ (x : Result A Flaw). result_unwrap_or x (f Value.nothing)) e ∙ told_value f c

-- what the code learns of the gravest fault
abbrev Passed : ℕ → Bool → ℕ → ℕ → Option Flaw → Type 0
Passed r must i w o = (d : Cell) → o ≡ flaw_of d → r ≡ judged_as must i d w

module _ {A : Type 0} (f : Value → A) (c : Cell) (j : Result A Flaw) (e : j ≡ told_of f c) (must : Bool) (i w r : ℕ) (o : Option Flaw) (p : o ≡ result_err j) (g : Passed r must i w o) where
  pub judged_told : r ≡ judged_as must i c w
  judged_told = g c (flaw_told f c j e o p)

  held_told : (b : Bool) (v : A) → b ≡ is_ok j → v ≡ result_unwrap_or j (f Value.nothing) → record { worst = r; value = record { here = b; value = v } } ≡ held_as (maybe_of (λ x. f (value_in x))) must i c w
  unfolding held_as
  held_told b v q h =
      let x = judged_told in
      let y = here_told f c j e b q in
      let z = value_told f c j e v h in
      cc

  plain_told : (v : A) → v ≡ result_unwrap_or j (f Value.nothing) → record { worst = r; value = v } ≡ held_as (λ x. f (value_in x)) must i c w
  unfolding held_as
  plain_told v h =
      let x = judged_told in
      let z = value_told f c j e v h in
      cc

-- by what is made of the value
abbrev HeldBy : {A : Type 0} → (Value → A) → (Cell → A) → Type 0
HeldBy {A} f h =
    (c : Cell) (j : Result A Flaw) → j ≡ told_of f c → (must : Bool) (i w r : ℕ) (o : Option Flaw) → o ≡ result_err j → Passed r must i w o
    → (b : Bool) (v : A) → b ≡ is_ok j → v ≡ result_unwrap_or j (f Value.nothing) → record { worst = r; value = record { here = b; value = v } } ≡ held_as (maybe_of h) must i c w

pub held_word : HeldBy word_of word_in
held_word = held_told word_of

pub held_figure : HeldBy figure_of figure_in
held_figure = held_told figure_of

pub held_mark : HeldBy mark_of mark_in
held_mark = held_told mark_of

pub held_position : HeldBy position_of position_in
held_position = held_told position_of

module _ (j : Result ℕ Flaw) (must : Bool) (i w r : ℕ) (o : Option Flaw) (p : o ≡ result_err j) (g : Passed r must i w o) (v : ℕ) (h : v ≡ result_unwrap_or j 0) where
  pub plain_word : (c : Cell) → j ≡ told_of word_of c → record { worst = r; value = v } ≡ held_as word_in must i c w
  plain_word c e = plain_told word_of c j e must i w r o p g v h

  pub plain_octets : (s : List ℕ) (q m : ℕ) → m ≡ 245 → j ≡ told_of word_of (cell_at (Kind.arrays 0 m) s q) → record { worst = r; value = v } ≡ held_as word_in must i (cell_at user_bytes s q) w
  plain_octets s q m l e = plain_word (cell_at user_bytes s q) (e ∙ ap (λ (n : ℕ). told_of word_of (cell_at (Kind.arrays 0 n) s q)) l)

-- an array's parts, and a version's numbers
module _ (c : Cell) (must : Bool) (i w r : ℕ) (o : Option Flaw) (g : Passed r must i w o) where
  pub parts_told : (j : Result ℕ Flaw) → j ≡ told_of word_of c → o ≡ result_err j → (n : ℕ) → n ≡ result_unwrap_or j 0
      → record { worst = r; value = record { flaw = o; count = n } } ≡ held_as parts_in must i c w
  unfolding held_as
  parts_told j e p n h =
      let x = judged_told word_of c j e must i w r o p g in
      let y = flaw_told word_of c j e o p in
      let z = value_told word_of c j e n h in
      cc

  pub version_told : (j : Result Released Flaw) → j ≡ told_of release_of c → o ≡ result_err j → (b : Bool) → b ≡ is_ok j → (v : Released) → v ≡ result_unwrap_or j (record { major = 0; minor = 0; patch = 0 })
      → record { worst = r; value = record { here = b; value = record { major = v.major; minor = v.minor; patch = v.patch } } } ≡ held_as (maybe_of version_in) must i c w
  unfolding held_as
  version_told j e p b q v h =
      let x = judged_told release_of c j e must i w r o p g in
      let y = here_told release_of c j e b q in
      let z = value_told release_of c j e v h in
      cc

-- how much a word is at most, by its kind
module _ (s : List ℕ) (p : ℕ) (j : Result ℕ Flaw) (n : ℕ) (h : n ≡ result_unwrap_or j 0) where
  within : (k : Kind) (m : ℕ) → Most k m → j ≡ told_of word_of (cell_at k s p) → n ≤ m
  within k m l e = omega (arith, value_told word_of (cell_at k s p) j e n h, cell_most k m l (cell_at k s p) (worth k s p))

  pub natural_within : (m : ℕ) → j ≡ told_of word_of (cell_at (Kind.wholes 0 m) s p) → n ≤ m
  natural_within m e = within (Kind.wholes 0 m) m (Most.whole m) e

  pub letters_within : j ≡ told_of word_of (cell_at status_text s p) → n < 256
  letters_within e = omega (arith, within status_text 64 (Most.text 0 64) e)

  pub profile_within : j ≡ told_of word_of (cell_at profile_text s p) → n < 256
  profile_within e = omega (arith, within profile_text 16 (Most.text 1 16) e)

  pub octets_within : (m : ℕ) → m ≡ 245 → j ≡ told_of word_of (cell_at (Kind.arrays 0 m) s p) → n < 256
  octets_within m l e = omega (arith, within (Kind.arrays 0 m) m (Most.octets 0 m) e)

  pub counters_within : j ≡ told_of word_of (cell_at (Kind.counters 16) s p) → n < 256
  counters_within e = omega (arith, within (Kind.counters 16) 16 (Most.counters 16) e)

  pub entries_within : j ≡ told_of word_of (cell_at (Kind.pieces 16 245 800) s p) → n < 256
  entries_within e = omega (arith, within (Kind.pieces 16 245 800) 16 (Most.pieces 16 245 800) e)

pub ruleset withins = (natural_within, letters_within, profile_within, octets_within, counters_within, entries_within)

-- a signed number, of 64 bits and of 32: what the code learns of the gravest fault, and the number's bits
module _ (s : List ℕ) (p i w r : ℕ) (j : Result ℕ Flaw) (must : Bool) (o : Option Flaw) (q : o ≡ result_err j) (g : Passed r must i w o) (n : ℕ) (h : n ≡ result_unwrap_or j 0) (z : ℤ) where
  pub number_is : (lo hi : ℕ) → lo ≤ 2 ^ 63 → hi < 2 ^ 63 → j ≡ told_of word_of (cell_at (Kind.wholes lo hi) s p) → (b : Bool) → b ≡ is_ok j → SFits w64 z → z ≡ signed_of 64 n
      → record { worst = r; value = record { here = b; value = to_z w64 (of_z w64 z) } } ≡ held_as (maybe_of id_in) must i (cell_at (Kind.wholes lo hi) s p) w
  unfolding held_as
  number_is lo hi x y e b u f v =
      let c = cell_at (Kind.wholes lo hi) s p in
      let a = judged_told word_of c j e must i w r o q g in
      let t = here_told word_of c j e b u in
      let d : to_z w64 (of_z w64 z) ≡ id_in c = to_z-of_z w64 z f ∙ (v ∙ (ap (signed_of 64) (value_told word_of c j e n h) ∙ id_word lo hi x y c (worth (Kind.wholes lo hi) s p))) in
      cc

  pub code_is : j ≡ told_of word_of (cell_at signed32 s p) → SFits w32 z → z ≡ signed_of 32 (n % 4294967296)
      → record { worst = r; value = to_z w32 (of_z w32 z) } ≡ held_as id_in must i (cell_at signed32 s p) w
  unfolding held_as
  code_is e f v =
      let c = cell_at signed32 s p in
      let a = judged_told word_of c j e must i w r o q g in
      let b : to_z w32 (of_z w32 z) ≡ id_in c =
      to_z-of_z w32 z f ∙ (v ∙ (ap (λ (x : ℕ). signed_of 32 (x % 2 ^ 32)) (value_told word_of c j e n h) ∙ code_word 0x80000000 0x7FFFFFFF (omega arith) (omega arith) c (worth signed32 s p))) in
      cc
