-- A value with the bytes that encode it, as they were sent.
use Rattle.std.specs.Prelude.{◌≡◌, ℕ, ◌-◌, List, ◌∷◌, ◌++◌, length, take, None, Ok, refl}
use Rattle.std.proofs.Common.{ap, ◌∙◌, arith}
use Rattle.std.proofs.lemmas.List.{take_at, length-append}
use Rattle.mysql_wire.specs.Codec.{Codec}
use Rattle.mysql_wire.specs.Form.{Form}
use Rattle.mysql_wire.specs.Reading.{Reading, IsTail, then_read, then_read-ok, done-value, done-rest, done-both}
use Rattle.mysql_wire.specs.ServerCommand.{server_command_code}
use Rattle.mysql_wire.specs.declared.codes.server_command.ServerCommand.{ServerCommand}
use Rattle.mysql_commands.specs.declared.with_raw_bytes.WithRawBytes.{WithRawBytes}

-- the bytes in front of a tail
abbrev pub front_of : List ℕ → List ℕ → List ℕ
front_of bytes tail = take (length bytes - length tail) bytes

pub front_of-at : (front tail : List ℕ) → front_of (front ++ tail) tail ≡ front
front_of-at front tail = take_at front tail _ (omega (arith, length-append front tail))

pub front_of-tail : (bytes tail : List ℕ) → IsTail tail bytes → bytes ≡ front_of bytes tail ++ tail
front_of-tail bytes tail t = rw (t.parts, front_of-at t.front tail) refl

module _ {T : Type 0} where
  abbrev pub value : WithRawBytes T → T
  value p = p.value

  abbrev pub bytes : WithRawBytes T → List ℕ
  bytes p = p.bytes

  abbrev pub sent_of : T → List ℕ → WithRawBytes T
  sent_of v bytes = record { value = v; bytes = bytes }

module _ {T : Type 0} (f : Form T) where
  -- the bytes encode the value, and precede the rest
  abbrev pub as_sent_Spells : WithRawBytes T → List ℕ → List ℕ → Type 0
  as_sent_Spells p bytes rest = f.Spells p.value bytes rest × (bytes ≡ p.bytes ++ rest)

  abbrev pub as_sent_reads : List ℕ → Reading (WithRawBytes T)
  as_sent_reads bytes = then_read (f.reads bytes) (λ v rest. Ok (sent_of v (front_of bytes rest), rest))

  pub as_sent-from : (p : WithRawBytes T) (bytes rest : List ℕ) → as_sent_reads bytes ≡ Ok (p, rest) → (f.reads bytes ≡ Ok (p.value, rest)) × (front_of bytes rest ≡ p.bytes)
  as_sent-from p bytes rest e =
      let a = then_read-ok (f.reads bytes) (λ v rest. Ok (sent_of v (front_of bytes rest), rest)) (p, rest) e in
      let same : sent_of a.0 (front_of bytes a.1) ≡ p = done-value _ _ _ _ a.3 in
      let left : a.1 ≡ rest = done-rest _ _ _ _ a.3 in
      (a.2 ∙ done-both a.0 p.value a.1 rest (ap (λ (q : WithRawBytes T). q.value) same) left, rw (← left) (ap (λ (q : WithRawBytes T). q.bytes) same))

  pub as_sent-front : (p : WithRawBytes T) (bytes rest : List ℕ) → as_sent_reads bytes ≡ Ok (p, rest) → IsTail rest bytes
  as_sent-front p bytes rest e = f.front p.value bytes rest (as_sent-from p bytes rest e).0

  pub as_sent-found : (p : WithRawBytes T) (bytes rest : List ℕ) → as_sent_reads bytes ≡ Ok (p, rest) → as_sent_Spells p bytes rest
  as_sent-found p bytes rest e =
      let a = as_sent-from p bytes rest e in
      (f.found p.value bytes rest a.0, rw (← a.1) (front_of-tail bytes rest (as_sent-front p bytes rest e)))

  pub as_sent-only : (p : WithRawBytes T) (bytes rest : List ℕ) → as_sent_Spells p bytes rest → as_sent_reads bytes ≡ Ok (p, rest)
  as_sent-only p bytes rest s =
      let front : front_of bytes rest ≡ p.bytes = rw s.1 (front_of-at p.bytes rest) in
      rw (f.only p.value bytes rest s.0, front) refl

-- what the form reads, with the bytes that it takes
abbrev pub as_sent_form : {T : Type 0} → Form T → Form (WithRawBytes T)
as_sent_form f = record {
  size = None;
  Spells = as_sent_Spells f;
  reads = as_sent_reads f;
  found = as_sent-found f;
  only = as_sent-only f;
  front = as_sent-front f;
  sized = tt;
}

-- The same, written as it was sent: it fits if the bytes encode the value, whatever follows, as they do after they were read.
abbrev pub as_sent : {C T : Type 0} → (C → Form T) → Codec C (WithRawBytes T)
as_sent form = record {
  form = λ c. as_sent_form (form c);
  bytes = bytes;
  len = λ p. length p.bytes;
  fits = λ c p rest. (form c).Spells p.value (p.bytes ++ rest) rest;
  exact = λ c p rest h. refl;
  again = λ c p rest h. (h, refl);
}

-- the bytes begin with a command's code
abbrev pub BeginsWith : ServerCommand → List ℕ → Type 0
BeginsWith command bytes = (more : List ℕ) × (bytes ≡ server_command_code command ∷ more)

-- a whole command: its bytes begin with its own code
abbrev pub command_as_sent : {C T : Type 0} → ServerCommand → (C → Form T) → Codec C (WithRawBytes T)
command_as_sent command form = record {
  form = λ c. as_sent_form (form c);
  bytes = bytes;
  len = λ p. length p.bytes;
  fits = λ c p rest. BeginsWith command p.bytes × (form c).Spells p.value (p.bytes ++ rest) rest;
  exact = λ c p rest h. refl;
  again = λ c p rest h. (h.1, refl);
}
