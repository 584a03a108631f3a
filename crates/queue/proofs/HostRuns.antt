-- Any run of the host's calls on a sound store is the run of those calls on the queue in it, and leaves it sound; so what is proved of runs of calls is true of
-- every queue that calls made from zeros. By induction over the calls. Assumes nothing.
use mathlib.Core.{Path.◌≡◌, Path.refl, Path.sym, Path.ap, Path.subst, Path.◌∙◌}
use mathlib.Core.{Bool.true, List.List, List.[], List.◌∷◌, List.◌++◌}
use Rattle.std.specs.Prelude.{None}
use Prim.Native.Nat.{ℕ}
use lib.{ListN.length, ListN.replicate}
use Rattle.record.specs.declared.{DlDataQue.DlDataQue, Body.Body, Message.Message}
use Rattle.record.specs.Fits.{fits}
use Rattle.queue.specs.{Queue.Queue, Store.store_size, Store.entry_of, Store.queue_at, Store.is_sound}
use Rattle.queue.specs.Calls.{Queued, adds_at, downlink_in, adds}
use Rattle.queue.specs.Run.{Call, step, after}
use Rattle.queue.specs.HostRun.{HostCall, host_step, host_after, call_of, calls_of}
use Rattle.queue.proofs.{Cases.by_places, Cases.by_tests, Calling.is_store, Seen.Seen, Seen.seen_fit, Seen.seen_cancel, Seen.seen_choose}
use Rattle.queue.proofs.{Lasting.parts, Lasting.downlink_is, Lasting.add_sound, Lasting.cancel_sound, Lasting.choose_sound, Empty.zeros_empty, Empty.zeros_sound}

-- one call
module _ (q : List ℕ) (s : is_sound q ≡ true) where
  step_sound : (c : HostCall) → is_sound (host_step q c) ≡ true
  unfolding host_step
  step_sound (HostCall.add m d) = add_sound q s m d
  step_sound (HostCall.cancel id) = cancel_sound q s id
  step_sound (HostCall.choose eui k expected) = choose_sound q s eui k expected

  long : length q ≡ store_size
  long = (parts q s).long

  fit_seen : (m : Message) (x : DlDataQue) (d : List ℕ) → m.body ≡ Body.DlDataQue x → fits m d ≡ true → Seen (adds_at q m x d) (step (queue_at q) (Call.add (entry_of x d)))
  fit_seen m x d e fit =
      let same : record { op_id = m.op_id; body = Body.DlDataQue x } ≡ m = λ j. record { op_id = m.op_id; body = sym e j } in
      subst (λ (u : Message). fits u d ≡ true → Seen (adds_at q u x d) (step (queue_at q) (Call.add (entry_of x d)))) same (λ g. seen_fit q long m.op_id x d g) fit

  abbrev Becomes : Queued ℕ → List Call → Type 0
  Becomes a cs = queue_at a.store ≡ after (queue_at q) cs

  add_seen : (m : Message) (d : List ℕ) → Becomes (adds q m d) (call_of (HostCall.add m d))
  unfolding call_of adds after
  add_seen m d =
      rw (is_store q long)
      (by_places Becomes (downlink_in m.body) _ _ _ _
      (λ x e. by_tests Becomes (fits m d) _ _ _ _ (λ f. (fit_seen m x d (downlink_is m.body x e) f).queue) (λ f. refl)) refl)

  step_seen : (c : HostCall) → queue_at (host_step q c) ≡ after (queue_at q) (call_of c)
  unfolding host_step call_of after
  step_seen (HostCall.add m d) = add_seen m d
  step_seen (HostCall.cancel id) = (seen_cancel q long id).queue
  step_seen (HostCall.choose eui k expected) = (seen_choose q long eui k expected).queue

-- any run
after_then : (q : Queue) (a b : List Call) → after (after q a) b ≡ after q (a ++ b)
unfolding after
after_then q [] b = refl
after_then q (c ∷ a) b = after_then (step q c).queue a b

pub run_sound : (q : List ℕ) → is_sound q ≡ true → (cs : List HostCall) → is_sound (host_after q cs) ≡ true
unfolding host_after
run_sound q s [] = s
run_sound q s (c ∷ cs) = run_sound (host_step q c) (step_sound q s c) cs

pub run_seen : (q : List ℕ) → is_sound q ≡ true → (cs : List HostCall) → queue_at (host_after q cs) ≡ after (queue_at q) (calls_of cs)
unfolding host_after calls_of after
run_seen q s [] = refl
run_seen q s (c ∷ cs) =
    run_seen (host_step q c) (step_sound q s c) cs
    ∙ (ap (λ (t : Queue). after t (calls_of cs)) (step_seen q s c) ∙ after_then (queue_at q) (call_of c) (calls_of cs))

-- from an empty queue
pub made_sound : (cs : List HostCall) → is_sound (host_after (replicate 31488 0) cs) ≡ true
made_sound cs = run_sound (replicate 31488 0) zeros_sound cs

pub made_seen : (cs : List HostCall) → queue_at (host_after (replicate 31488 0) cs) ≡ after (replicate 32 None) (calls_of cs)
made_seen cs = run_seen (replicate 31488 0) zeros_sound cs ∙ ap (λ (t : Queue). after t (calls_of cs)) zeros_empty
