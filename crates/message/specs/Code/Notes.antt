-- The same in the bytes: where the value of each key stands. The code goes by these; proofs/Stands ties them to elements.
use Rattle.std.specs.Prelude.{ℕ, zero, suc, ◌-◌, List, get_or, take, drop, set, replicate, Ok, Err}
use Rattle.element.specs.{Form.Role, Form.Step, Form.element_of, Code.At.body_from}
use Rattle.names.specs.Code.Slots.{slot_of}

-- the body of the text that stands from p to q
unfoldable pub key_at : List ℕ → ℕ → ℕ → List ℕ
key_at s p q = take (q - body_from s p) (drop (body_from s p) s)

-- a place by slot: 0 no place yet, 1 more than one
abbrev pub note_of : ℕ → ℕ → ℕ
note_of zero q = q
note_of (suc n) q = 1

abbrev pub on_next : Step → List ℕ → (ℕ → ℕ → List ℕ) → List ℕ
on_next (Ok n) x k = k n.at n.count
on_next (Err b) x k = x

-- one more value of a key
abbrev pub noted : List ℕ → ℕ → ℕ → List ℕ
noted a i q = set a i (note_of (get_or a i 0) q)

-- n pairs from p on
unfoldable pub notes_of : List ℕ → ℕ → ℕ → ℕ → List ℕ → List ℕ
notes_of s zero p c a = a
notes_of s (suc n) p c a =
    on_next (element_of s 7 Role.key p c) a
    (λ q d. on_next (element_of s 7 Role.value q d) a
    (λ z f. notes_of s n z f (noted a (slot_of (key_at s p q)) q)))

-- no key has a place yet
abbrev pub unnoted : List ℕ
unnoted = replicate 64 0
