-- The tail of an OK packet as a server sends it: info and session state.
use Rattle.std.specs.Prelude.{◌≡◌, ℕ, suc, ◌<◌, ◌^◌, List, [], ◌∷◌, ◌++◌, length, Option, Some, None, Bool, true, false, if◌then◌else◌, ◌&&◌, not, ◌==◌, refl}
use Rattle.std.proofs.Common.{arith, append_assoc, sym, ◌∙◌, ap, inl, inr}
use Rattle.std.proofs.lemmas.Bool.{cases_lt, lt-ltb, le-ltb, ne_eqb}
use Rattle.std.proofs.lemmas.List.{append-nil}
use Rattle.mysql_wire.specs.Again.{lenenc_string-again}
use Rattle.mysql_wire.specs.CodecFits.{is_there}
use Rattle.mysql_wire.specs.Flags.{CapabilityFlags, StatusFlags}
use Rattle.mysql_wire.specs.Form.{Form, ◌>>=◌, give, either, looking}
use Rattle.mysql_wire.specs.LenEnc.{lenenc_string, lenenc_bytes, lenenc_string_bytes}
use Rattle.mysql_wire.specs.Optional.{optional_bytes}
use Rattle.mysql_replies.specs.declared.ok_packet.OkPacket.{OkPacket}
use Rattle.mysql_replies.specs.OkKind.{OkTail, begins_with_no_zero, ok_tail, state_changed, tail_of, tracks}
use Rattle.mysql_replies.specs.OkPacket.{status_flags, info, session_state, state_bytes, bytes_or_none}

-- the session state is sent: changes are tracked, and the status says that there are some
abbrev pub sends_state : CapabilityFlags → StatusFlags → Bool
sends_state capabilities status = tracks capabilities && state_changed status

-- if the session state is sent, info and session state, length-encoded; otherwise the info, if there is one
abbrev pub tail_bytes : CapabilityFlags → OkPacket → List ℕ
tail_bytes capabilities p =
    if sends_state capabilities (status_flags p) then lenenc_string_bytes (bytes_or_none (info p)) ++ lenenc_string_bytes (state_bytes p)
    else optional_bytes lenenc_string_bytes (info p)

-- not empty, and shorter than 2^64 bytes
abbrev pub ContentFits : Option (List ℕ) → Type 0
ContentFits None = Unit {0}
ContentFits (Some []) = ⊥
ContentFits (Some (b ∷ bytes)) = length (b ∷ bytes) < 2 ^ 64

-- shorter than 2^64 bytes
abbrev pub ContentIsShort : Option (List ℕ) → Type 0
ContentIsShort None = Unit {0}
ContentIsShort (Some bytes) = length bytes < 2 ^ 64

-- a session state is present only if it is sent
abbrev pub StateIsSent : Bool → Option (List ℕ) → Type 0
StateIsSent true state = Unit {0}
StateIsSent false None = Unit {0}
StateIsSent false (Some bytes) = ⊥

pub record TailFits (capabilities : CapabilityFlags) (p : OkPacket) : Type 0 where
  pub sent : StateIsSent (sends_state capabilities (status_flags p)) (session_state p)
  pub info : ContentFits (info p)
  pub session_state : ContentFits (session_state p)

-- ---- what is sent is read back

-- a length-encoded number has a first byte, which is not 0 unless the number is
lenenc-there : (n : ℕ) (rest : List ℕ) → is_there (lenenc_bytes n ++ rest) ≡ true
unfolding lenenc_bytes
lenenc-there n rest =
    elim (cases_lt n 251) [
      | inl one ↦ rw (lt-ltb _ _ one) refl
      | inr le1 ↦ elim (cases_lt n (2 ^ 16)) [
        | inl two ↦ rw (le-ltb _ _ le1, lt-ltb _ _ two) refl
        | inr le2 ↦ elim (cases_lt n (2 ^ 24)) [
          | inl three ↦ rw (le-ltb _ _ le1, le-ltb _ _ le2, lt-ltb _ _ three) refl
          | inr le3 ↦ rw (le-ltb _ _ le1, le-ltb _ _ le2, le-ltb _ _ le3) refl
        ]
      ]
    ]

no_zero : (n : ℕ) → not (suc n == 0) ≡ true
no_zero n = ap not (ne_eqb (suc n) 0 (λ e. omega arith))

lenenc-no_zero : (n : ℕ) (rest : List ℕ) → begins_with_no_zero (lenenc_bytes (suc n) ++ rest) ≡ true
unfolding lenenc_bytes
lenenc-no_zero n rest =
    elim (cases_lt (suc n) 251) [
      | inl one ↦ rw (lt-ltb _ _ one) (no_zero n)
      | inr le1 ↦ elim (cases_lt (suc n) (2 ^ 16)) [
        | inl two ↦ rw (le-ltb _ _ le1, lt-ltb _ _ two) refl
        | inr le2 ↦ elim (cases_lt (suc n) (2 ^ 24)) [
          | inl three ↦ rw (le-ltb _ _ le1, le-ltb _ _ le2, lt-ltb _ _ three) refl
          | inr le3 ↦ rw (le-ltb _ _ le1, le-ltb _ _ le2, le-ltb _ _ le3) refl
        ]
      ]
    ]

string-there : (content rest : List ℕ) → is_there (lenenc_string_bytes content ++ rest) ≡ true
unfolding lenenc_string_bytes
string-there content rest = rw append_assoc (lenenc-there (length content) (content ++ rest))

string-no_zero : (b : ℕ) (content rest : List ℕ) → begins_with_no_zero (lenenc_string_bytes (b ∷ content) ++ rest) ≡ true
unfolding lenenc_string_bytes
string-no_zero b content rest = rw append_assoc (lenenc-no_zero (length content) ((b ∷ content) ++ rest))

content-length : (content : Option (List ℕ)) → ContentFits content → length (bytes_or_none content) < 2 ^ 64
content-length None h = omega arith
content-length (Some []) h = absurd h
content-length (Some (b ∷ bytes)) h = h

-- the form of a tail, by the capabilities and the status
abbrev form_by : (tracked changed : Bool) → Form OkTail
form_by tracked changed = looking (λ bytes.
    either (tracked && is_there bytes) (do
      info ← lenenc_string
      state ← either changed lenenc_string (give [])
      give (tail_of info state))
    (either (begins_with_no_zero bytes) (do
      info ← lenenc_string
      give (tail_of info []))
    (give (tail_of [] []))))

abbrev bytes_by : (sent : Bool) → Option (List ℕ) → Option (List ℕ) → List ℕ
bytes_by sent i s =
    if sent then lenenc_string_bytes (bytes_or_none i) ++ lenenc_string_bytes (bytes_or_none s)
    else optional_bytes lenenc_string_bytes i

again-alone : (content : List ℕ) → length content < 2 ^ 64 → lenenc_string.Spells content (lenenc_string_bytes content) []
again-alone content lt = rw append-nil at (lenenc_string-again content lt [])

by-again : (tracked changed : Bool) (i s : Option (List ℕ)) → ContentFits i → ContentFits s → StateIsSent (tracked && changed) s
    → (form_by tracked changed).Spells (tail_of (bytes_or_none i) (bytes_or_none s)) (bytes_by (tracked && changed) i s) []
by-again true true i s hi hs sent =
    rw (string-there (bytes_or_none i) (lenenc_string_bytes (bytes_or_none s))) (
      bytes_or_none i,
      lenenc_string_bytes (bytes_or_none s),
      lenenc_string-again _ (content-length i hi) _,
      (bytes_or_none s, [], again-alone _ (content-length s hs), (refl, refl)),
    )
by-again true false i (Some s) hi hs sent = absurd sent
by-again true false None None hi hs sent = (refl, refl)
by-again true false (Some []) None hi hs sent = absurd hi
by-again true false (Some (b ∷ bytes)) None hi hs sent =
    rw (ap is_there (sym (append-nil (lenenc_string_bytes (b ∷ bytes)))) ∙ string-there (b ∷ bytes) [])
    (b ∷ bytes, [], again-alone (b ∷ bytes) hi, ([], [], (refl, refl), (refl, refl)))
by-again false changed i (Some s) hi hs sent = absurd sent
by-again false changed None None hi hs sent = (refl, refl)
by-again false changed (Some []) None hi hs sent = absurd hi
by-again false changed (Some (b ∷ bytes)) None hi hs sent =
    rw (ap begins_with_no_zero (sym (append-nil (lenenc_string_bytes (b ∷ bytes)))) ∙ string-no_zero b bytes [])
    (b ∷ bytes, [], again-alone (b ∷ bytes) hi, (refl, refl))

pub tail-again : (status : StatusFlags) (c : CapabilityFlags) (s : OkPacket × CapabilityFlags) (rest : List ℕ)
    → (c ≡ s.1) × (status ≡ status_flags s.0) × (rest ≡ []) × TailFits s.1 s.0
    → (ok_tail c status).Spells (tail_of (bytes_or_none (info s.0)) (state_bytes s.0)) (tail_bytes s.1 s.0 ++ rest) rest
unfolding ok_tail
tail-again status c s rest h =
    rw (h.0, h.1, h.2, append-nil (tail_bytes s.1 s.0))
    (by-again (tracks s.1) (state_changed (status_flags s.0)) (info s.0) (session_state s.0) h.3.info h.3.session_state h.3.sent)
