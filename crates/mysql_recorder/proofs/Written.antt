-- What the program's steps write.
use Rattle.std.proofs.Common.{◌≡◌, inl, inr, ℕ, Bool, true, false, List, [], ◌++◌, Option, Result, Ok, Err, OnOk, IfErr, refl, subst, append-nil}
use Rattle.std.proofs.KnownBytes.{Appends-nil}
use Rattle.std.specs.Io.KnownBytes.{Appends}
use Rattle.mysql_conversation.specs.declared.packet_kind_tag.PacketKindTag.{PacketKindTag}
use Rattle.mysql_recorder.specs.declared.entry.Layout.{Layout}
use Rattle.mysql_recorder.specs.Answers.{Ends, EndsWith, InputEnds, IsErrorWritten, lost_status, PieceEnds, PieceGoesOn, SaysError, Takes}
use Rattle.mysql_recorder.specs.Losses.{Loses, TextLoses}
use Rattle.mysql_show.specs.Output.{Answer, IsFront, IsWritten}
use Rattle.mysql_recorder.specs.Recorded as recorded
use Rattle.mysql_recorder.specs.Recorded.{Finishes, GoesOn}
use Rattle.mysql_recorder.specs.Stops.{Stops, TextStops}
use Rattle.mysql_recorder.specs.declared.error.RecordingError.{RecordingError}
use Rattle.mysql_recorder.specs.declared.recording.Recording.{Recording}
use Rattle.mysql_recorder.proofs.Answered.{ends_after, ends_plain}
use Rattle.mysql_show.proofs.Outputs.{written_after}

all_of : (ok : Bool) (text : List ℕ) (a b : Option (List ℕ)) → ok ≡ true → IsFront ok text a b → Appends a b text
all_of ok text a b is h = subst (λ k. IsFront k text a b) is h

pub none_written : (sums : Bool) (status : ℕ) (a : Option (List ℕ)) → (answer : Answer) × EndsWith sums [] status answer × IsWritten answer a a status
none_written sums status a = (record { text = []; status = status }, ends_plain sums [] status, inl (Appends-nil a, refl))

-- the line of an error, followed by the sums
pub error_sums : (layout : Layout) (sums ok : Bool) (e : RecordingError) (a b c : Option (List ℕ)) (status : ℕ) → ok ≡ true → (line : List ℕ) × SaysError layout e line × IsFront ok line a b
    → (answer : Answer) × EndsWith sums [] 1 answer × IsWritten answer b c status → IsErrorWritten layout sums e [] a c status
error_sums layout sums ok e a b c status is said ended =
    let answer : Answer = record { text = said.0 ++ ended.0.text; status = ended.0.status } in (
      said.0,
      answer,
      said.1,
      subst (λ l. EndsWith sums l 1 answer) (append-nil said.0) (ends_after sums said.0 [] 1 ended.0 ended.1),
      written_after said.0 ended.0 a b c status (all_of ok said.0 a b is said.2) ended.2,
    )

pub error_fails : (layout : Layout) (sums ok : Bool) (e : RecordingError) (a b : Option (List ℕ)) → ok ≡ false → (line : List ℕ) × SaysError layout e line × IsFront ok line a b
    → IsErrorWritten layout sums e [] a b 3
error_fails layout sums ok e a b is said =
    (said.0, record { text = said.0; status = 1 }, said.1, ends_plain sums said.0 1, inr (subst (λ k. IsFront k said.0 a b) is said.2, refl))

-- after a text
error_after : (layout : Layout) (sums : Bool) (e : RecordingError) (t : List ℕ) (a b c : Option (List ℕ)) (status : ℕ) → Appends a b t → IsErrorWritten layout sums e [] b c status
    → IsErrorWritten layout sums e t a c status
error_after layout sums e t a b c status first h =
    (h.0, record { text = t ++ h.1.text; status = h.1.status }, h.2, ends_after sums t h.0 1 h.1 h.3, written_after t h.1 a b c status first h.4)

-- the clause of `push` for an empty output
pub takes_of : (r : Result (Unit {0}) RecordingError) (all : List PacketKindTag) (p : List ℕ) (old new : Recording) (before t : List ℕ) → before ≡ []
    → OnOk r (GoesOn p old new before t) → IfErr r (λ e. Stops all p old new e before t) → Loses all p old new before t
    → (recorded.has_lost old ≡ true → recorded.has_lost new ≡ true) → recorded.settings new ≡ recorded.settings old
    → Takes r all p old new t
takes_of r all p old new before t none goes refused loses lost settings = record {
  goes = subst (λ b. OnOk r (GoesOn p old new b t)) none goes;
  refused = subst (λ b. IfErr r (λ e. Stops all p old new e b t)) none refused;
  loses = subst (λ b. Loses all p old new b t) none loses;
  lost = lost;
  settings = settings;
}

pub ends_of : (r : Result (Unit {0}) RecordingError) (all : List PacketKindTag) (old new : Recording) (before t : List ℕ) → before ≡ []
    → OnOk r (Finishes old new before t) → IfErr r (λ e. TextStops all old e before t) → TextLoses all (Unit {0}) old new before t
    → (recorded.has_lost old ≡ true → recorded.has_lost new ≡ true) → Ends r all old new t
ends_of r all old new before t none finishes refused loses lost = record {
  finishes = subst (λ b. OnOk r (Finishes old new b t)) none finishes;
  refused = subst (λ b. IfErr r (λ e. TextStops all old e b t)) none refused;
  loses = subst (λ b. TextLoses all (Unit {0}) old new b t) none loses;
  lost = lost;
}

-- ---- a piece

pub piece_goes : (r : Result (Unit {0}) RecordingError) (all : List PacketKindTag) (p : List ℕ) (old new : Recording) (text bytes : List ℕ) (ok : Bool) (a b : Option (List ℕ))
    → r ≡ Ok tt → ok ≡ true → bytes ≡ text → Takes r all p old new text → IsFront ok bytes a b → PieceGoesOn all p old new a b
piece_goes r all p old new text bytes ok a b is whole same takes front = record {
  text = text;
  takes = subst (λ q. Takes q all p old new text) is takes;
  written = all_of ok text a b whole (subst (λ t. IsFront ok t a b) same front);
}

pub piece_fails : (r : Result (Unit {0}) RecordingError) (all : List PacketKindTag) (layout : Layout) (sums : Bool) (p : List ℕ) (old new : Recording) (text bytes : List ℕ) (ok : Bool) (a b : Option (List ℕ))
    → ok ≡ false → bytes ≡ text → Takes r all p old new text → IsFront ok bytes a b → PieceEnds all layout sums p old new a b 3
piece_fails r all layout sums p old new text bytes ok a b cut same takes front = record {
  taken = r;
  text = text;
  takes = takes;
  ends = inl (subst (λ k. IsFront k text a b) cut (subst (λ t. IsFront ok t a b) same front), refl);
}

pub piece_refused : (r : Result (Unit {0}) RecordingError) (all : List PacketKindTag) (layout : Layout) (sums : Bool) (p : List ℕ) (old new : Recording) (text bytes : List ℕ) (ok : Bool) (e : RecordingError) (a b c : Option (List ℕ)) (status : ℕ)
    → r ≡ Err e → ok ≡ true → bytes ≡ text → Takes r all p old new text → IsFront ok bytes a b → IsErrorWritten layout sums e [] b c status → PieceEnds all layout sums p old new a c status
piece_refused r all layout sums p old new text bytes ok e a b c status is whole same takes front said = record {
  taken = Err e;
  text = text;
  takes = subst (λ q. Takes q all p old new text) is takes;
  ends = inr (error_after layout sums e text a b c status (all_of ok text a b whole (subst (λ t. IsFront ok t a b) same front)) said);
}

-- ---- the end

pub end_fails : (r : Result (Unit {0}) RecordingError) (all : List PacketKindTag) (layout : Layout) (sums : Bool) (old new : Recording) (text bytes : List ℕ) (ok : Bool) (a b : Option (List ℕ))
    → ok ≡ false → bytes ≡ text → Ends r all old new text → IsFront ok bytes a b → InputEnds all layout sums old new a b 3
end_fails r all layout sums old new text bytes ok a b cut same says front = record {
  finished = r;
  text = text;
  says = says;
  ends = inl (subst (λ k. IsFront k text a b) cut (subst (λ t. IsFront ok t a b) same front), refl);
}

pub end_refused : (r : Result (Unit {0}) RecordingError) (all : List PacketKindTag) (layout : Layout) (sums : Bool) (old new : Recording) (text bytes : List ℕ) (ok : Bool) (e : RecordingError) (a b c : Option (List ℕ)) (status : ℕ)
    → r ≡ Err e → ok ≡ true → bytes ≡ text → Ends r all old new text → IsFront ok bytes a b → IsErrorWritten layout sums e [] b c status → InputEnds all layout sums old new a c status
end_refused r all layout sums old new text bytes ok e a b c status is whole same says front said = record {
  finished = Err e;
  text = text;
  says = subst (λ q. Ends q all old new text) is says;
  ends = inr (error_after layout sums e text a b c status (all_of ok text a b whole (subst (λ t. IsFront ok t a b) same front)) said);
}

pub end_done : (r : Result (Unit {0}) RecordingError) (all : List PacketKindTag) (layout : Layout) (sums : Bool) (old new : Recording) (text bytes : List ℕ) (ok : Bool) (n : ℕ) (a b c : Option (List ℕ)) (status : ℕ)
    → r ≡ Ok tt → ok ≡ true → bytes ≡ text → n ≡ lost_status (recorded.has_lost new) → Ends r all old new text → IsFront ok bytes a b
    → (answer : Answer) × EndsWith sums [] n answer × IsWritten answer b c status → InputEnds all layout sums old new a c status
end_done r all layout sums old new text bytes ok n a b c status is whole same lost says front ended =
    let answer : Answer = record { text = text ++ ended.0.text; status = ended.0.status } in
    record {
      finished = Ok tt;
      text = text;
      says = subst (λ q. Ends q all old new text) is says;
      ends = inr (
        answer,
        subst (λ l. EndsWith sums l (lost_status (recorded.has_lost new)) answer) (append-nil text)
            (ends_after sums text [] (lost_status (recorded.has_lost new)) ended.0 (subst (λ k. EndsWith sums [] k ended.0) lost ended.1)),
        written_after text ended.0 a b c status (all_of ok text a b whole (subst (λ t. IsFront ok t a b) same front)) ended.2,
      );
    }
