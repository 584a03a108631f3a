-- A lost connection: by the test of the bytes and by the state. Assumes nothing.
use mathlib.Core.Path.{◌≡◌, refl, sym, ap, ◌∙◌}
use mathlib.Core.Bool.{Bool, true, false, not}
use mathlib.Core.List.{List}
use Prim.Native.Nat.{ℕ, zero, suc}
use native.Mathlib.Omega.{arith}
use lib.ListN.{get_or, set}
use mir.Syntax.{w8}
use mir.Val.{Fits}
use Rattle.octets.proofs.Reading.{is_bytes}
use Rattle.octets.specs.Bytes.{IsBytes}
use Rattle.session.specs.{Session.State, Session.State.Waiting, Session.State.Connecting, Session.State.Open}
use Rattle.session.specs.{Centre.lost_in, Centre.lost, Centre.stored, Run.loss_of}
use Rattle.session.specs.Image.{state_of, session_image, session_at, is_session}
use Rattle.session.proofs.Image.{tested, image_back}
use Rattle.steps.specs.Code.Lies.{Lies}
use Rattle.steps.specs.Called.{Answer, refused_as, done_as, lost_answer, lost_session}
use Rattle.steps.proofs.{Tests.unset, Tests.set_is, Storing.now_stored, Lying.lies, Lying.state_is}
use Rattle.refusal.specs.declared.Refusal.TheVariants as refusal
use Rattle.session.specs.declared.Happened.{Happened}
use Rattle.session.specs.declared.Happened.TheVariants as happened

module _ (d : List ℕ) (b : Bool) (e : b ≡ is_session d) (r : Answer) where
  pub lost_wrong : not b ≡ true → r ≡ refused_as refusal.Invalid → (r ≡ lost_answer d) × (d ≡ lost_session d)
  lost_wrong h p = (p ∙ sym (simp (sym e ∙ unset b h)), sym (simp (sym e ∙ unset b h)))

  module _ (h : not b ≡ false) (told : (k : ℕ) → Fits w8 (get_or d k 0)) where
    bytes : IsBytes d
    bytes = is_bytes d told

    lying : Lies d
    lying = lies d b e h bytes

    pub lost_waiting : get_or d 344 0 ≡ 0 → r ≡ done_as happened.Nothing 0 → (r ≡ lost_answer d) × (d ≡ lost_session d)
    unfolding lost
    lost_waiting w p =
        let s : (session_at d).state ≡ Waiting = state_is d 0 w in
        (p ∙ sym (simp (sym e ∙ set_is b h, s)), sym (simp (sym e ∙ set_is b h, s) (image_back d bytes (tested d lying.is))))

    pub lost_stored : (get_or d 344 0 ≡ 0 → ⊥) → r ≡ done_as happened.Stored 0 → (r ≡ lost_answer d) × (set (set d 344 0) 345 1 ≡ lost_session d)
    unfolding lost
    lost_stored n p =
        let k = loss_is (get_or d 344 0) n in
        let s : (session_at d).state ≡ state_of (get_or d 344 0) = state_is d (get_or d 344 0) refl in (
          p ∙ sym (simp (sym e ∙ set_is b h) (ap (λ (x : State). done_as (loss_of x) 0) s ∙ ap (λ (x : Happened). done_as x 0) k)),
          now_stored d lying ∙ sym (simp (sym e ∙ set_is b h) (ap session_image (ap (λ (x : State). lost_in x (session_at d)) s ∙ lost_is (state_of (get_or d 344 0)) k))),
        )
      where
        loss_is : (x : ℕ) → (x ≡ 0 → ⊥) → loss_of (state_of x) ≡ happened.Stored
        loss_is zero n = absurd (n refl)
        loss_is (suc zero) n = refl
        loss_is (suc (suc x)) n = refl

        lost_is : (x : State) → loss_of x ≡ happened.Stored → lost_in x (session_at d) ≡ stored (session_at d)
        lost_is Waiting n = let z : ◌≡◌ {A = ℕ} 0 1 = cc in absurd (omega arith)
        lost_is Connecting n = refl
        lost_is Open n = refl
