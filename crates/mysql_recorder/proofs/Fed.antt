-- What the program writes for a reader's input.
use Rattle.std.proofs.Common.{◌≡◌, ◌⊎◌, inl, take, ℕ, Bool, List, [], ◌++◌, Option, Some, None, refl, sym, ap, subst, ◌∙◌, append-nil}
use Rattle.std.proofs.KnownBytes.{Appends-nil, Appends-trans, Consumes-kept, Consumes-nil, Consumes-trans}
use Rattle.std.specs.Io.KnownBytes.{Appends, Consumes, IsAtEnd, Keeps}
use Rattle.mysql_conversation.specs.declared.packet_kind_tag.PacketKindTag.{PacketKindTag}
use Rattle.mysql_recorder.specs.declared.entry.Layout.{Layout}
use Rattle.mysql_recorder.specs.Answers.{error_line, error_name, InputEnds, IsAnswer, IsAnswered, IsCallAnswered, IsRun, memory_line, PieceEnds, PieceGoesOn, SaysError, SaysName, usage}
use Rattle.mysql_recorder.specs.Calls.{call_of}
use Rattle.mysql_show.specs.Output.{IsWritten}
use Rattle.mysql_recorder.specs.declared.program.Call.{Call}
use Rattle.mysql_recorder.specs.Recorded as recorded
use Rattle.mysql_recorder.specs.Recorded.{Recorded}
use Rattle.mysql_recorder.specs.declared.error.RecordingError.{RecordingError}
use Rattle.mysql_recorder.specs.declared.recording.Recording.{Recording}
use Rattle.mysql_recorder.proofs.Answered.{IsAmid, amid_more, amid_none, cut_off, IsGiven, piece_given, end_given}

piece_in : (all : List PacketKindTag) (layout : Layout) (limit : ℕ) (sums : Bool) (at_end : Type 0) (old new : Recording) (x p w : List ℕ) (a b c : Option (List ℕ)) (status : ℕ)
    → recorded.layout old ≡ layout → recorded.longest old ≡ limit → Appends a b w → PieceEnds all layout sums p old new b c status
    → IsGiven all layout limit sums at_end old x w (x ++ p) a c status
piece_in all layout limit sums at_end old new x p w a b c status same long first =
    subst (λ s. PieceEnds all s sums p old new b c status → IsGiven all s limit sums at_end old x w (x ++ p) a c status) same
    (subst (λ n. PieceEnds all (recorded.layout old) sums p old new b c status → IsGiven all (recorded.layout old) n sums at_end old x w (x ++ p) a c status) long
    (λ h. piece_given h.taken all sums at_end old new x p w h.text a b c status first h.takes h.ends))

end_in : (all : List PacketKindTag) (layout : Layout) (limit : ℕ) (sums : Bool) (at_end : Type 0) (old new : Recording) (x w : List ℕ) (a b c : Option (List ℕ)) (status : ℕ)
    → recorded.layout old ≡ layout → recorded.longest old ≡ limit → at_end → Appends a b w → InputEnds all layout sums old new b c status
    → IsGiven all layout limit sums at_end old x w x a c status
end_in all layout limit sums at_end old new x w a b c status same long here first =
    subst (λ s. InputEnds all s sums old new b c status → IsGiven all s limit sums at_end old x w x a c status) same
    (subst (λ n. InputEnds all (recorded.layout old) sums old new b c status → IsGiven all (recorded.layout old) n sums at_end old x w x a c status) long
    (λ h. end_given h.finished all sums at_end old new x w h.text a b c status first h.says here h.ends))

-- A reader returned an input, and its answer is written.
pub record IsFed (all : List PacketKindTag) (layout : Layout) (limit : ℕ) (from : Type 0) (r : Recording) (before after old new : Option (List ℕ)) : Type 0 where
  pub input : List ℕ
  pub text : List ℕ
  pub read : Consumes before after input
  pub written : Appends old new text
  pub amid : from → IsAmid all layout limit r input text
  pub layout_is : recorded.layout r ≡ layout
  pub longest_is : recorded.longest r ≡ limit

pub fed_none : (all : List PacketKindTag) (layout : Layout) (limit : ℕ) (r : Recording) (before old : Option (List ℕ)) → recorded.layout r ≡ layout → recorded.longest r ≡ limit
    → IsFed all layout limit (Recorded r [] []) r before before old old
fed_none all layout limit r before old same long =
    record { input = []; text = []; read = Consumes-nil before; written = Appends-nil old; amid = λ h. amid_none all layout limit r h; layout_is = same; longest_is = long }

pub fed_more : (all : List PacketKindTag) (layout : Layout) (limit : ℕ) (from : Type 0) (old new : Recording) (p : List ℕ) (before mid after a b c : Option (List ℕ))
    → IsFed all layout limit from old before mid a b → Consumes mid after p → PieceGoesOn all p old new b c → IsFed all layout limit from new before after a c
fed_more all layout limit from old new p before mid after a b c fed read h = record {
  input = fed.input ++ p;
  text = fed.text ++ h.text;
  read = Consumes-trans before mid after fed.input p fed.read read;
  written = Appends-trans a b c fed.text h.text fed.written h.written;
  amid = λ f. amid_more all layout limit old new fed.input p fed.text h.text fed.layout_is fed.longest_is h.takes (fed.amid f);
  layout_is = ap (λ s. s.layout) h.takes.settings ∙ fed.layout_is;
  longest_is = ap (λ s. s.longest) h.takes.settings ∙ fed.longest_is;
}

pub piece_answered : (all : List PacketKindTag) (layout : Layout) (limit : ℕ) (sums : Bool) (from : Type 0) (old new : Recording) (p : List ℕ) (before mid after a b c : Option (List ℕ)) (status : ℕ)
    → IsFed all layout limit from old before mid a b → Consumes mid after p → PieceEnds all layout sums p old new b c status → IsAnswered all layout limit sums from before after a c status
piece_answered all layout limit sums from old new p before mid after a b c status fed read h =
    let given = piece_in all layout limit sums (IsAtEnd after) old new fed.input p fed.text a b c status fed.layout_is fed.longest_is fed.written h in
    record {
      input = fed.input ++ p;
      read = Consumes-trans before mid after fed.input p fed.read read;
      answer = given.answer;
      answers = λ f. given.answers (fed.amid f);
      written = given.written;
    }

pub end_answered : (all : List PacketKindTag) (layout : Layout) (limit : ℕ) (sums : Bool) (from : Type 0) (old new : Recording) (chunk : List ℕ) (n : ℕ) (before mid after a b c : Option (List ℕ)) (status : ℕ)
    → IsFed all layout limit from old before mid a b → Consumes mid after (take n chunk) → n ≡ 0 → IsAtEnd after → InputEnds all layout sums old new b c status
    → IsAnswered all layout limit sums from before after a c status
end_answered all layout limit sums from old new chunk n before mid after a b c status fed read none here h =
    let given = end_in all layout limit sums (IsAtEnd after) old new fed.input fed.text a b c status fed.layout_is fed.longest_is here fed.written h in
    record {
      input = fed.input;
      read = subst (Consumes before after) (append-nil fed.input) (Consumes-trans before mid after fed.input [] fed.read (subst (λ k. Consumes mid after (take k chunk)) none read));
      answer = given.answer;
      answers = λ f. given.answers (fed.amid f);
      written = given.written;
    }

-- a read fails, or the input ends
pub no_more_read : (all : List PacketKindTag) (layout : Layout) (limit : ℕ) (sums : Bool) (from : Type 0) (r : Recording) (before mid after a b : Option (List ℕ))
    → IsFed all layout limit from r before mid a b → Keeps mid after → IsAnswered all layout limit sums from before after a b 3
no_more_read all layout limit sums from r before mid after a b fed kept = record {
  input = fed.input;
  read = Consumes-kept before mid after fed.input fed.read kept;
  answer = record { text = fed.text; status = 3 };
  answers = λ f. cut_off all layout limit sums (IsAtEnd after) r fed.input fed.text (fed.amid f);
  written = inl (fed.written, refl);
}

pub says_name : (layout : Layout) (e : RecordingError) (name line : List ℕ) → error_name e ≡ Some name → (line ≡ error_line layout name) ⊎ (line ≡ memory_line) → SaysError layout e line
says_name layout e name line is h = subst (λ n. SaysName layout n line) (sym is) h

pub says_none : (layout : Layout) (e : RecordingError) → error_name e ≡ None → SaysError layout e []
says_none layout e is = subst (λ n. SaysName layout n []) (sym is) refl

pub answered_from : (all : List PacketKindTag) (layout : Layout) (limit was : ℕ) (sums : Bool) (from to : Type 0) (before after old new : Option (List ℕ)) (status : ℕ) → was ≡ limit → (to → from)
    → IsAnswered all layout was sums from before after old new status → IsAnswered all layout limit sums to before after old new status
answered_from all layout limit was sums from to before after old new status e f h = record {
  input = h.input;
  read = h.read;
  answer = h.answer;
  answers = λ t. subst (λ n. IsAnswer all layout n sums (IsAtEnd after) h.input h.answer) e (h.answers (f t));
  written = h.written;
}

-- a bad call
pub bad_call : (all : List PacketKindTag) (words : List (List ℕ)) (before old new : Option (List ℕ)) (status : ℕ) → None ≡ call_of words → IsWritten usage old new status → IsRun all words before before old new status
bad_call all words before old new status asked written = subst (λ call. IsCallAnswered all call before before old new status) asked (refl, written)

pub good_call : (all : List PacketKindTag) (words : List (List ℕ)) (call : Call) (before after old new : Option (List ℕ)) (status : ℕ) → Some call ≡ call_of words
    → IsAnswered all call.layout call.longest call.sums (call.agreed ≡ None) before after old new status → IsRun all words before after old new status
good_call all words call before after old new status asked answered = subst (λ c. IsCallAnswered all c before after old new status) asked answered
