-- What the program answers to a recording.
use Rattle.std.specs.Prelude.{◌≡◌, ◌⊎◌, ℕ, Bool, true, false, List, [], ◌++◌, Option, Some, None, Result, OnOk, Ok, IfErr, MatchResult, codes}
use Rattle.std.specs.Io.KnownBytes.{Appends, Consumes, IsAtEnd}
use Rattle.mysql_conversation.specs.declared.packet_kind_tag.PacketKindTag.{PacketKindTag}
use Rattle.mysql_conversation.specs.declared.pipeline.SessionError.{SessionError}
use Rattle.mysql_show.specs.Appended.{Stays}
use Rattle.mysql_recorder.specs.declared.entry.Layout.{Layout}
use Rattle.mysql_recorder.specs.declared.entry.Layout.TheVariants as layout
use Rattle.mysql_recorder.specs.Calls.{call_of}
use Rattle.mysql_recorder.specs.Lines.{Heard}
use Rattle.mysql_recorder.specs.Losses.{IsAtFeed, IsLost, Loses, TextLoses}
use Rattle.mysql_show.specs.Output.{Answer, IsFront, IsWritten}
use Rattle.mysql_recorder.specs.Recorded.{Finishes, GoesOn, IsShown}
use Rattle.mysql_recorder.specs.Recorded as recorded
use Rattle.mysql_recorder.specs.Refusals.{IfRefused}
use Rattle.mysql_recorder.specs.Shown.{Item, Writes}
use Rattle.mysql_recorder.specs.Sums.{AppendsSomeSums}
use Rattle.mysql_recorder.specs.Stops.{Stops, StopsAfter, TextStops}
use Rattle.mysql_recorder.specs.declared.error.RecordingError.{RecordingError}
use Rattle.mysql_recorder.specs.declared.error.RecordingError.TheVariants as error
use Rattle.mysql_recorder.specs.declared.program.Call.{Call}
use Rattle.mysql_recorder.specs.declared.recording.Recording.{Recording}

-- ---- what a recording makes of an input

-- an entry for each packet that ends in the input, except for these bytes, which are pending
abbrev pub Shows : Layout → List ℕ → List Heard → List ℕ → Type 0
Shows layout input waits text = (items : List Item) × IsShown input waits items × Writes layout [] items [] text

-- After a prefix of the input something is lost, and the packets up to there are shown; what was shown stays.
abbrev pub LostIn : List PacketKindTag → Layout → ℕ → (List ℕ → Type 0) → List ℕ → List ℕ → Type 0
LostIn all layout limit ends input text =
    (front : List ℕ) × (back : List ℕ) × (items : List Item) × (shown : List ℕ) × (mid : List ℕ) × (input ≡ front ++ back)
    × Writes layout [] items [] shown × IsLost all layout limit (ends back) front items shown mid × Stays mid text

-- a line ends there: at its line feed, or at the end of the input
abbrev pub IsLineEnd : List ℕ → Type 0
IsLineEnd bytes = IsAtFeed bytes ⊎ (bytes ≡ [])

-- what has been shown of an input so far
abbrev pub IsMade : List PacketKindTag → Layout → ℕ → List ℕ → List ℕ → Type 0
IsMade all layout limit input text = ((waits : List Heard) × Shows layout input waits text) ⊎ LostIn all layout limit IsAtFeed input text

-- After a prefix of the input there is an unexpected packet; those before it are shown, and then it is, as refused.
abbrev pub RefusedIn : List PacketKindTag → Layout → SessionError → List ℕ → List ℕ → Type 0
RefusedIn all layout why input text =
    (front : List ℕ) × (back : List ℕ) × (items : List Item) × (mid : List ℕ) × (input ≡ front ++ back)
    × Writes layout [] items [] mid × StopsAfter all layout front items why mid text

-- the output begins with that of a prefix of the input
abbrev pub BeginsMade : List PacketKindTag → Layout → ℕ → List ℕ → List ℕ → Type 0
BeginsMade all layout limit input text =
    (front : List ℕ) × (back : List ℕ) × (made : List ℕ) × (input ≡ front ++ back) × IsMade all layout limit front made × Stays made text

-- ---- how it ends

-- its name; an unexpected packet has none, as its entry says it
abbrev pub error_name : RecordingError → Option (List ℕ)
error_name error.Memory = Some (codes "Memory")
error_name error.Line = Some (codes "InvalidInput")
error_name error.OutOfOrder = Some (codes "OutOfOrder")
error_name error.TooLong = Some (codes "TooLong")
error_name error.Missing = Some (codes "Missing")
error_name (error.Refused why) = None

abbrev pub error_line : Layout → List ℕ → List ℕ
error_line layout.Lines name = codes "refused: " ++ name ++ codes "\n"
error_line layout.Json name = codes "{\"refused\":\"" ++ name ++ codes "\"}\n"

abbrev pub memory_line : List ℕ
memory_line = codes "refused: Memory\n"

-- the line of a name, or one that memory ran out; nothing without a name
abbrev pub SaysName : Layout → Option (List ℕ) → List ℕ → Type 0
SaysName layout None text = text ≡ []
SaysName layout (Some name) text = (text ≡ error_line layout name) ⊎ (text ≡ memory_line)

abbrev pub SaysError : Layout → RecordingError → List ℕ → Type 0
SaysError layout e text = SaysName layout (error_name e) text

-- The text and the status; if sums are requested, they follow the text, or memory ran out for them.
abbrev pub EndsWith : (sums : Bool) → List ℕ → ℕ → Answer → Type 0
EndsWith false text status answer = (answer.text ≡ text) × (answer.status ≡ status)
EndsWith true text status answer =
    ((sums : List ℕ) × (answer.text ≡ text ++ sums) × (answer.status ≡ status)) ⊎ ((answer.text ≡ text ++ memory_line) × (answer.status ≡ 1))

-- ---- the answer

-- The input is read to its end, and nothing is lost.
pub record IsDone (layout : Layout) (sums : Bool) (input : List ℕ) (answer : Answer) : Type 0 where
  pub shown : List ℕ
  pub shows : Shows layout input [] shown
  pub ends : EndsWith sums shown 0 answer

-- The input is read to its end, and something is lost.
pub record HasLost (all : List PacketKindTag) (layout : Layout) (limit : ℕ) (sums : Bool) (input : List ℕ) (answer : Answer) : Type 0 where
  pub shown : List ℕ
  pub lost : LostIn all layout limit IsLineEnd input shown
  pub ends : EndsWith sums shown 1 answer

-- A packet before the end of the login is unexpected.
pub record IsRefused (all : List PacketKindTag) (layout : Layout) (sums : Bool) (input : List ℕ) (answer : Answer) : Type 0 where
  pub why : SessionError
  pub shown : List ℕ
  pub stops : RefusedIn all layout why input shown
  pub ends : EndsWith sums shown 1 answer

-- It stops for another reason: an unexpected packet only if something was lost.
pub record GoesNoFurther (all : List PacketKindTag) (layout : Layout) (limit : ℕ) (sums : Bool) (input : List ℕ) (answer : Answer) : Type 0 where
  pub why : RecordingError
  pub shown : List ℕ
  pub line : List ℕ
  pub begins : BeginsMade all layout limit input shown
  pub lost : IfRefused why (λ r. (text : List ℕ) × LostIn all layout limit IsAtFeed input text)
  pub says : SaysError layout why line
  pub ends : EndsWith sums (shown ++ line) 1 answer

-- A read or a write fails: the output so far.
pub record IsCutOff (all : List PacketKindTag) (layout : Layout) (limit : ℕ) (input : List ℕ) (answer : Answer) : Type 0 where
  pub made : IsMade all layout limit input answer.text
  pub status : answer.status ≡ 3

abbrev pub IsAnswer : List PacketKindTag → Layout → ℕ → (sums : Bool) → (at_end : Type 0) → List ℕ → Answer → Type 0
IsAnswer all layout limit sums at_end input answer =
    (at_end × IsDone layout sums input answer) ⊎ (at_end × HasLost all layout limit sums input answer) ⊎ IsRefused all layout sums input answer
    ⊎ GoesNoFurther all layout limit sums input answer ⊎ IsCutOff all layout limit input answer

-- The reader returned an input, and an answer is written. If the connection is seen from its greeting on, it is the one for the input.
pub record IsAnswered (all : List PacketKindTag) (layout : Layout) (limit : ℕ) (sums : Bool) (from_greeting : Type 0) (before after old new : Option (List ℕ)) (status : ℕ) : Type 0 where
  pub input : List ℕ
  pub read : Consumes before after input
  pub answer : Answer
  pub answers : from_greeting → IsAnswer all layout limit sums (IsAtEnd after) input answer
  pub written : IsWritten answer old new status

-- a bad call
abbrev pub usage : Answer
usage = record { text = codes "usage: mypackets conversation [MAX] [caps=CAPS] [mariadb=CAPS] [--deciphered] [--json] [--sum]\n"; status = 2 }

-- The request is answered. A bad call is answered with the usage, and nothing is read.
abbrev pub IsCallAnswered : List PacketKindTag → Option Call → Option (List ℕ) → Option (List ℕ) → Option (List ℕ) → Option (List ℕ) → ℕ → Type 0
IsCallAnswered all None before after old new status = (after ≡ before) × IsWritten usage old new status
IsCallAnswered all (Some call) before after old new status = IsAnswered all call.layout call.longest call.sums (call.agreed ≡ None) before after old new status

-- what the arguments request
abbrev pub IsRun : List PacketKindTag → (words : List (List ℕ)) → (before after old new : Option (List ℕ)) → ℕ → Type 0
IsRun all words before after old new status = IsCallAnswered all (call_of words) before after old new status

-- ---- steps

-- the answer of `push` for a piece
pub record Takes (r : Result (Unit {0}) RecordingError) (all : List PacketKindTag) (piece : List ℕ) (old new : Recording) (text : List ℕ) : Type 0 where
  pub goes : OnOk r (GoesOn piece old new [] text)
  pub refused : IfErr r (λ e. Stops all piece old new e [] text)
  pub loses : Loses all piece old new [] text
  pub lost : recorded.has_lost old ≡ true → recorded.has_lost new ≡ true
  pub settings : recorded.settings new ≡ recorded.settings old

-- the answer of `finish`
pub record Ends (r : Result (Unit {0}) RecordingError) (all : List PacketKindTag) (old new : Recording) (text : List ℕ) : Type 0 where
  pub finishes : OnOk r (Finishes old new [] text)
  pub refused : IfErr r (λ e. TextStops all old e [] text)
  pub loses : TextLoses all (Unit {0}) old new [] text
  pub lost : recorded.has_lost old ≡ true → recorded.has_lost new ≡ true

-- the sums are written, and the status; or memory ran out for them
abbrev pub SumsWritten : Layout → ℕ → (old new : Option (List ℕ)) → ℕ → Type 0
SumsWritten layout status old new written =
    ((sums : List ℕ) × AppendsSomeSums layout [] sums × IsWritten (record { text = sums; status = status }) old new written)
    ⊎ IsWritten (record { text = memory_line; status = 1 }) old new written

-- a text followed by an error's line, as a written answer
abbrev pub IsErrorWritten : Layout → (sums : Bool) → RecordingError → List ℕ → Option (List ℕ) → Option (List ℕ) → ℕ → Type 0
IsErrorWritten layout sums e text old new status =
    (line : List ℕ) × (answer : Answer) × SaysError layout e line × EndsWith sums (text ++ line) 1 answer × IsWritten answer old new status

-- a prefix of the text is written, and the status is 3
abbrev pub FailsIn : List ℕ → Option (List ℕ) → Option (List ℕ) → ℕ → Type 0
FailsIn text old new status = IsFront false text old new × (status ≡ 3)

abbrev pub lost_status : Bool → ℕ
lost_status true = 1
lost_status false = 0

-- a piece is taken, and its output is written
pub record PieceGoesOn (all : List PacketKindTag) (piece : List ℕ) (before after : Recording) (old new : Option (List ℕ)) : Type 0 where
  pub text : List ℕ
  pub takes : Takes (Ok tt) all piece before after text
  pub written : Appends old new text

-- it stops inside a piece, or a write fails
pub record PieceEnds (all : List PacketKindTag) (layout : Layout) (sums : Bool) (piece : List ℕ) (before after : Recording) (old new : Option (List ℕ)) (status : ℕ) : Type 0 where
  pub taken : Result (Unit {0}) RecordingError
  pub text : List ℕ
  pub takes : Takes taken all piece before after text
  pub ends : FailsIn text old new status ⊎ MatchResult taken (λ _. ⊥) (λ e. IsErrorWritten layout sums e text old new status)

-- the input has ended
pub record InputEnds (all : List PacketKindTag) (layout : Layout) (sums : Bool) (before after : Recording) (old new : Option (List ℕ)) (status : ℕ) : Type 0 where
  pub finished : Result (Unit {0}) RecordingError
  pub text : List ℕ
  pub says : Ends finished all before after text
  pub ends : FailsIn text old new status ⊎ MatchResult finished
      (λ _. (answer : Answer) × EndsWith sums text (lost_status (recorded.has_lost after)) answer × IsWritten answer old new status)
      (λ e. IsErrorWritten layout sums e text old new status)
