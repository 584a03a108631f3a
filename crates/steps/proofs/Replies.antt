-- The replies as the code chooses them, that they may be written, and that they are short. Each law in the shape of a need of the code. Assumes nothing.
use mathlib.Core.Path.{◌≡◌, sym, ap, ◌∙◌}
use mathlib.Core.{Bool.Bool, Bool.true, Bool.false, List.List}
use Prim.Native.Nat.{ℕ, ◌≤◌}
use native.Mathlib.Omega.{arith}
use lib.{IntN.ℤ, Dec.eqb}
use mir.Syntax.{w64}
use mir.Val.{Fits, SFits, to_z, of_z}
use mir.ValLaws.{to_z-of_z}
use borrow.Author.Tests.{eq-eqb, ne_eqb}
use Rattle.octets.specs.Choice.{either}
use Rattle.names.specs.Names.{bytes, commands, place_in, command_of}
use Rattle.record.specs.declared.{Sixteen.Sixteen, Message.Message}
use Rattle.record.specs.{Says.is_bare, Fits.fits, Code.Most.frame_most}
use Rattle.session.specs.Arrive.{bare_of, con_rsp_with, det_rsp_of, rsp_of}
use Rattle.steps.specs.Code.Lies.{is_reply}
use Rattle.steps.proofs.Replying.{bare_fits, rsp_fits, con_rsp_fits}

module _ (z : ℤ) (g : SFits w64 z) (m : Message) where
  module _ (sign c : ℕ) where
    pub rsp_det : c ≡ 4 → m ≡ det_rsp_of (to_z w64 (of_z w64 z)) sign → m ≡ rsp_of sign c z
    unfolding command_of commands place_in
    rsp_det e p = p ∙ ap (λ (y : ℤ). det_rsp_of y sign) (to_z-of_z w64 z g) ∙ sym (simp (eq-eqb c 4 e))

    pub rsp_bare : (c ≡ 4 → ⊥) → m ≡ bare_of c (to_z w64 (of_z w64 z)) → m ≡ rsp_of sign c z
    unfolding command_of commands place_in
    rsp_bare e p = p ∙ ap (bare_of c) (to_z-of_z w64 z g) ∙ sym (simp (ne_eqb c 4 e))

    pub rsp_fit : (d : List ℕ) → m ≡ rsp_of sign c (to_z w64 (of_z w64 z)) → is_reply c ≡ true → true ≡ fits m d
    rsp_fit d e r = sym (ap (λ (x : Message). fits x d) (e ∙ ap (rsp_of sign c) (to_z-of_z w64 z g)) ∙ rsp_fits d z g sign c r)

    pub rsp_brief : m ≡ rsp_of sign c (to_z w64 (of_z w64 z)) → frame_most m.body ≤ 145
    rsp_brief e = rw e (go (eqb c (command_of (bytes "detRsp"))))
      where
        go : (b : Bool) → frame_most (either b (λ _. det_rsp_of (to_z w64 (of_z w64 z)) sign) (λ _. bare_of c (to_z w64 (of_z w64 z)))).body ≤ 145
        go true = omega arith
        go false = omega arith

  pub bare_fit : (c : ℕ) (d : List ℕ) → m ≡ bare_of c (to_z w64 (of_z w64 z)) → is_bare c ≡ true → true ≡ fits m d
  bare_fit c d e r = sym (ap (λ (x : Message). fits x d) (e ∙ ap (bare_of c) (to_z-of_z w64 z g)) ∙ bare_fits d z g c r)

  pub bare_brief : (c : ℕ) → m ≡ bare_of c (to_z w64 (of_z w64 z)) → frame_most m.body ≤ 145
  bare_brief c e = rw e (omega arith)

pub con_rsp_fit : (m : Message) (eui : ℕ) (r : Bool) (u : Sixteen) (d : List ℕ) → m ≡ con_rsp_with eui r u → Fits w64 eui → true ≡ fits m d
con_rsp_fit m eui r u d e h = sym (ap (λ (x : Message). fits x d) e ∙ con_rsp_fits d eui r u h.fits)

pub con_rsp_brief : (m : Message) (eui : ℕ) (r : Bool) (u : Sixteen) → m ≡ con_rsp_with eui r u → frame_most m.body ≤ 145
con_rsp_brief m eui r u e = rw e (omega arith)

pub ruleset replies = (rsp_det, rsp_bare, rsp_fit, rsp_brief, bare_fit, bare_brief, con_rsp_fit, con_rsp_brief)
