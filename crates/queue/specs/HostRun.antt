-- Runs of the host's calls on a store, refused ones among them, and the calls on the queue in it that they are.
use Rattle.std.specs.Prelude.{ℕ}
use mathlib.Core.{Bool.Bool, List.List, List.[], List.◌∷◌, List.◌++◌}
use Rattle.octets.specs.Choice.{either}
use Rattle.record.specs.{declared.Message.Message, Fits.fits}
use Rattle.queue.specs.{Queue.on_place, Store.entry_of, Run.Call}
use Rattle.queue.specs.Calls.{downlink_in, adds, cancels, chooses}

pub data HostCall : Type 0 where
  add : Message → List ℕ → HostCall
  cancel : ℕ → HostCall
  choose : ℕ → ℕ → Bool → HostCall

-- the store after a call
unfoldable pub host_step : List ℕ → HostCall → List ℕ
host_step q (HostCall.add m d) = (adds q m d).store
host_step q (HostCall.cancel id) = (cancels q id).store
host_step q (HostCall.choose eui k expected) = (chooses q eui k expected).store

unfoldable pub host_after : List ℕ → List HostCall → List ℕ
host_after q [] = q
host_after q (c ∷ cs) = host_after (host_step q c) cs

-- what is refused with 15 is no call on the queue
unfoldable pub call_of : HostCall → List Call
call_of (HostCall.add m d) = on_place (downlink_in m.body) (λ x. either (fits m d) (λ _. Call.add (entry_of x d) ∷ []) (λ _. [])) []
call_of (HostCall.cancel id) = Call.cancel id ∷ []
call_of (HostCall.choose eui k expected) = Call.choose eui k expected ∷ []

unfoldable pub calls_of : List HostCall → List Call
calls_of [] = []
calls_of (c ∷ cs) = call_of c ++ calls_of cs
