-- The program's turns keep to what turns must (crates/turns): there is one and no second, only a frame that is not complete waits, and a frame that is
-- whole in the bytes at hand is the same however the input goes on. Assumes nothing.
use mathlib.Core.Path.{◌≡◌, refl, sym, ap, subst, ◌∙◌}
use mathlib.Core.Bool.{Bool, true, false, ◌&&◌, not, and-true, and-false}
use mathlib.Core.List.{List, [], ◌∷◌, ◌++◌}
use Prim.Native.Nat.{ℕ, suc, ◌≤◌, ◌<◌}
use native.Mathlib.Omega.{arith}
use lib.{Dec.eqb, ListN.length, ListN.length-append}
use borrow.Author.Tests.{ne_eqb, eqb-true, eqb-false}
use Rattle.octets.proofs.Ranges.{true_false}
use Rattle.std.specs.Prelude.{Result, Ok, Err}
use Rattle.refusal.specs.{Number.number_of, declared.Broken.Broken, declared.Refusal.Refusal}
use Rattle.frame.specs.Frame.{Framed, identifier, agrees, size_of, framed_of, payload_of, used_of, frame_refusal}
use Rattle.frame.proofs.{Format.refused_number, Format.whole_size, Used.used_within}
use Rattle.record.specs.{declared.Counted.Counted, Meant.Meant}
use Rattle.turns.{specs.Turns.Turn, proofs.Steady.Steady}
use Rattle.reading.{specs.declared.Unframed.Unframed, proofs.Framing.refused_meant}
use Rattle.lines.specs.{Means.scratch, Means.Means, Lines.line_of, Lines.end_line, Lines.stop_lines}
use Rattle.lines.specs.{Turn.printed_refused, Turn.printed_of, Runs.numbered, Runs.OneTurn}
use Rattle.lines.proofs.{Meaning.told_means, Meaning.framed_once, Straddle.straddles, Straddle.payload_straddles}

-- nothing at hand is a frame that is not complete
empty_waits : frame_refusal (framed_of []) ≡ 1
unfolding framed_of agrees identifier
empty_waits = refl

-- a frame that is not refused
module _ (s : List ℕ) (z : frame_refusal (framed_of s) ≡ 0) where
  whole_framed : framed_of s ≡ Ok (size_of s)
  whole_framed = go (framed_of s) refl
    where
      go : (f : Framed) → framed_of s ≡ f → framed_of s ≡ Ok (size_of s)
      go (Ok k) e = e ∙ ap Ok (sym (whole_size s k e))
      go (Err k) e = let i : number_of k ≡ 0 = sym (ap frame_refusal e) ∙ z in absurd (omega (arith, refused_number s k e))

  pub uses_some : used_of (framed_of s) ≡ 0 → ⊥
  uses_some y = omega (arith, ap used_of whole_framed)

refused_by : (f : Framed) → (frame_refusal f ≡ 0 → ⊥) → (k : Refusal) × (f ≡ Err k)
refused_by (Ok k) z = absurd (z refl)
refused_by (Err k) z = (k, refl)

-- what a turn prints: a line, nothing yet, the end, or a stop
pub data Way : Bool → ℕ → List ℕ → Turn ℕ → Type 0 where
  line : (last : Bool) (n : ℕ) (h : List ℕ) (t : Result Counted Broken) → frame_refusal (framed_of h) ≡ 0 → Means (payload_of (size_of h) h) t
      → Way last n h (record { used = used_of (framed_of h); text = line_of n t; ended = false; state = suc n })
  wait : (n : ℕ) (h : List ℕ) → frame_refusal (framed_of h) ≡ 1 → Way false n h (record { used = 0; text = []; ended = false; state = n })
  end : (n : ℕ) → Way true n [] (record { used = 0; text = end_line n; ended = true; state = n })
  stop : (last : Bool) (n : ℕ) (h : List ℕ) → 0 < length h → (frame_refusal (framed_of h) ≡ 0 → ⊥) → eqb (frame_refusal (framed_of h)) 1 && not last ≡ false
      → Way last n h (record { used = 0; text = stop_lines n (frame_refusal (framed_of h)); ended = true; state = n })

-- each way is a turn
refused_turn : (last : Bool) (n : ℕ) (h : List ℕ) (t : Turn ℕ) → (frame_refusal (framed_of h) ≡ 0 → ⊥)
    → t ≡ numbered n (printed_refused last n (length h) (frame_refusal (framed_of h))) → OneTurn last n h t
unfolding printed_of
refused_turn last n h t z q = record {
  frame = record { used = 0; told = Err (record { refusal = k.0; place = 0 }) };
  meant = record { lent = scratch; meant = refused_meant h scratch k.0 k.1 (Err (record { refusal = k.0; place = 0 })) refl };
  same = q ∙ ap (λ (f : Framed). numbered n (printed_refused last n (length h) (frame_refusal f))) k.1;
}
  where
    k : (k : Refusal) × (framed_of h ≡ Err k)
    k = refused_by (framed_of h) z

pub way_turn : (last : Bool) (n : ℕ) (h : List ℕ) (t : Turn ℕ) → Way last n h t → OneTurn last n h t
unfolding printed_of printed_refused
way_turn last n h t (Way.line l m g told e w) = record {
  frame = record { used = used_of (framed_of h); told = told };
  meant = record {
    lent = w.lent;
    meant = record {
      used = refl;
      refused = λ k f. absurd (cc (sym (whole_framed h e) ∙ f));
      whole = λ k f.
          let same : size_of h ≡ k = cc (sym (whole_framed h e) ∙ f) in
          subst (λ (x : ℕ). Meant (payload_of x h) scratch (record { told = told; lent = w.lent })) same w.meant;
    };
  };
  same = simp (ne_eqb (used_of (framed_of h)) 0 (uses_some h e));
}
way_turn last n h t (Way.wait m g e) = refused_turn false n h t (λ z. let i : 1 ≡ 0 = sym e ∙ z in omega arith) (simp e)
way_turn last n h t (Way.end m) = refused_turn true n [] t (λ z. let i : 1 ≡ 0 = sym empty_waits ∙ z in omega arith) (simp empty_waits)
way_turn last n h t (Way.stop l m g s z c) = refused_turn last n h t z (simp (c, ne_eqb (length h) 0 (λ y. omega arith)))

-- and each turn goes one of them
way_all : (last : Bool) (n : ℕ) (h : List ℕ) → (t : Turn ℕ) × Way last n h t
way_all true n [] = (_, Way.end n)
way_all false n [] = (_, Way.wait n [] empty_waits)
way_all last n (b ∷ s) = go (eqb r 0) last (eqb r 1) refl refl
  where
    h : List ℕ
    h = b ∷ s

    r : ℕ
    r = frame_refusal (framed_of h)

    go : (x l y : Bool) → eqb r 0 ≡ x → eqb r 1 ≡ y → (t : Turn ℕ) × Way l n h t
    go true l y p q = let m = told_means (payload_of (size_of h) h) in (_, Way.line l n h m.0 (eqb-true r 0 p) m.1)
    go false true y p q = (_, Way.stop true n h (omega arith) (eqb-false r 0 p) (and-false (eqb r 1)))
    go false false false p q = (_, Way.stop false n h (omega arith) (eqb-false r 0 p) (simp q))
    go false false true p q = (_, Way.wait n h (eqb-true r 1 q))

turn_once : (last : Bool) (n : ℕ) (h : List ℕ) (t u : Turn ℕ) → OneTurn last n h t → OneTurn last n h u → t ≡ u
turn_once last n h t u s r =
    s.same ∙ ap (λ (f : Unframed). numbered n (printed_of last n (length h) f)) (framed_once h s.frame r.frame s.meant r.meant) ∙ sym r.same

pub turn_way : (last : Bool) (n : ℕ) (h : List ℕ) (t : Turn ℕ) → OneTurn last n h t → Way last n h t
turn_way last n h t s =
    let w = way_all last n h in
    subst (λ (x : Turn ℕ). Way last n h x) (turn_once last n h w.0 t (way_turn last n h w.0 w.1) s) w.1

-- so it keeps to what turns must
within : (last : Bool) (n : ℕ) (h : List ℕ) (t : Turn ℕ) → Way last n h t → t.used ≤ length h
within last n h t (Way.line l m g told e w) = used_within h
within last n h t (Way.wait m g e) = omega arith
within last n h t (Way.end m) = omega arith
within last n h t (Way.stop l m g s z c) = omega arith

waits : (last : Bool) (n : ℕ) (h : List ℕ) (t : Turn ℕ) → Way last n h t → t.ended ≡ false → t.used ≡ 0 → (last ≡ false) × ((t.text ≡ []) × (t.state ≡ n))
waits last n h t (Way.line l m g told e w) d y = absurd (uses_some h e y)
waits last n h t (Way.wait m g e) d y = (refl, (refl, refl))
waits last n h t (Way.end m) d y = true_false d
waits last n h t (Way.stop l m g s z c) d y = true_false d

stays : (n : ℕ) (h p : List ℕ) (l : Bool) (t : Turn ℕ) → Way false n h t → (t.ended ≡ false → t.used ≡ 0 → ⊥) → Way l n (h ++ p) t
stays n h p l t (Way.line k m g told e w) y =
    let q = straddles h p (λ f. let i : 0 ≡ 1 = sym e ∙ ap frame_refusal f in omega arith) in
    rw (← q) (Way.line l n (h ++ p) told (ap frame_refusal q ∙ e) (rw (payload_straddles h p (size_of h) (whole_framed h e) q) w))
stays n h p l t (Way.wait m g e) y = absurd (y refl refl)
stays n h p l t (Way.stop k m g s z c) y =
    let q = straddles h p (λ f. true_false (rw f at c)) in
    rw (← q) (Way.stop l n (h ++ p) (omega (arith, length-append h p)) (λ e. z (sym (ap frame_refusal q) ∙ e)) (simp (q, sym (and-true (eqb (frame_refusal (framed_of h)) 1)) ∙ c)))

pub steady : Steady OneTurn
steady = record {
  told = λ last n h. let w = way_all last n h in (w.0, way_turn last n h w.0 w.1);
  once = turn_once;
  within = λ last n h t s. within last n h t (turn_way last n h t s);
  waits = λ last n h t s. waits last n h t (turn_way last n h t s);
  stays = λ n h p l t s y. way_turn l n (h ++ p) t (stays n h p l t (turn_way false n h t s) y);
}
