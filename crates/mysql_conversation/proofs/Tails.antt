-- The grammar allows what the machine accepts: what may come from each state up to the end of the exchange.
use Rattle.std.proofs.Common.{◌≡◌, ℕ, zero, suc, List, ◌∷◌, inl, inr, refl, ap, Bool, true, false}
use Rattle.mysql_wire.specs.Flags.{StatusFlags}
use Rattle.mysql_conversation.specs.Agreements.{Agreed, deprecates_eof}
use Rattle.mysql_conversation.specs.Parts.{nothing, never, ◌followed_by◌, ◌or◌, times, many}
use Rattle.mysql_conversation.specs.Payloads.{has_more, opens_cursor, first_is, IsOldEnd}
use Rattle.mysql_conversation.specs.Conversation as c
use Rattle.mysql_conversation.specs.Conversation.{Packet, sent, served, answering, answered, ending, format_of, authentication_kind}
use Rattle.mysql_conversation.specs.Machine.{enter, defined}
use Rattle.mysql_conversation.specs.Taken.{packet}
use Rattle.mysql_conversation.specs.declared.state.After.{After}
use Rattle.mysql_conversation.specs.declared.state.After.TheVariants as after
use Rattle.mysql_conversation.specs.declared.state.Request.{Request}
use Rattle.mysql_conversation.specs.declared.state.Request.TheVariants.{Query, Execution, Cursor}
use Rattle.mysql_conversation.specs.declared.packet_kind.RowFormat.TheVariants.{Binary}
use Rattle.mysql_conversation.specs.declared.packet_kind.PacketKind.{PacketKind}
use Rattle.mysql_conversation.specs.declared.packet_kind.PacketKind.TheVariants as kind
use Rattle.mysql_conversation.specs.declared.packet_kind.Side.TheVariants.{Client, Server}
use Rattle.mysql_conversation.specs.declared.state.State.{State}
use Rattle.mysql_conversation.specs.declared.state.State.TheVariants as state

-- ---- what may come from each state

abbrev pub Part : Type 1
Part = List Packet → List Packet → Type 0

abbrev pub infile_answer : Agreed → Request → Part
infile_answer a r = (c.ok a true followed_by c.results a r) or c.ok a false

abbrev pub rows_answer : Agreed → Request → Part
rows_answer a r = (c.end a true followed_by c.results a r) or c.end a false

-- the EOF packet after the columns of an open cursor
abbrev pub cursor : Agreed → Request → Bool → Bool → Part
cursor a Query d more = never
cursor a Execution d more = never
cursor a Cursor true more = never
cursor a Cursor false more = served kind.Eof (λ p. (status : StatusFlags) × IsOldEnd a status p × (opens_cursor status ≡ true) × (has_more status ≡ more))

abbrev pub following : Agreed → After → Part
following a (after.Rows r) = many (c.row a (format_of r)) followed_by rows_answer a r
following a (after.Columns n) = c.definitions a true n
following a after.End = c.definitions_end a false
following a after.Rest = nothing

-- after a result's definitions
abbrev pub following_columns : Agreed → Request → Bool → Part
following_columns a r d = (c.columns_end a r d followed_by following a (after.Rows r)) or (cursor a r d true followed_by c.results a r) or cursor a r d false

-- after definitions
abbrev pub following_all : Agreed → Bool → After → Part
following_all a d (after.Rows r) = following_columns a r d
following_all a d (after.Columns n) = c.definitions_end a d followed_by c.definitions a true n
following_all a d after.End = c.definitions_end a d followed_by c.definitions_end a false
following_all a d after.Rest = c.definitions_end a d

-- one round of authentication
abbrev pub round : Agreed → Part
round a = c.asked a followed_by (nothing or c.auth_data)

abbrev pub authenticating : Agreed → Bool → Part
authenticating a true = (nothing or c.auth_data) followed_by c.authentication a
authenticating a false = c.authentication a

abbrev pub tail_of : Agreed → State → Part
tail_of a state.Rest = nothing
tail_of a (state.Authentication login is_asked) = authenticating a is_asked
tail_of a (state.Reply r) = c.results a r
tail_of a (state.Infile r) = many c.infile_content followed_by c.infile_end followed_by infile_answer a r
tail_of a (state.InfileReply r) = infile_answer a r
tail_of a (state.Definitions n b) = times (suc n) c.definition followed_by following_all a (deprecates_eof a) b
tail_of a (state.DefinitionsEnd b) = following_all a false b
tail_of a (state.Rows r) = following a (after.Rows r)
tail_of a state.Prepared = c.prepared a
tail_of a state.Fetch = many (c.row a Binary) followed_by c.any_end a
tail_of a (state.Acknowledgement may_end) = c.acknowledged a may_end
tail_of a state.Text = c.text
tail_of a state.Fields = many (c.field a) followed_by c.any_end a
tail_of a state.Events = c.events a
tail_of a state.SessionError = c.error a
tail_of a state.CloneReply = (c.ok a false followed_by many c.clone) or c.error a
tail_of a state.Clone = many c.clone
tail_of a state.Quit = nothing
tail_of a state.Over = nothing

-- ---- parts

pub sending : (k : PacketKind) (P : List ℕ → Type 0) (p : List ℕ) (items rest : List Packet) → items ≡ rest → P p → sent k P (packet Client p k ∷ items) rest
sending k P p items rest e h = (packet Client p k, (refl, refl, h), ap (λ xs. packet Client p k ∷ xs) e)

pub serving : (k : PacketKind) (P : List ℕ → Type 0) (p : List ℕ) (items rest : List Packet) → items ≡ rest → first_is 0xff p ≡ false → P p → served k P (packet Server p k ∷ items) rest
serving k P p items rest e f h = (packet Server p k, (refl, refl, f, h), ap (λ xs. packet Server p k ∷ xs) e)

pub many_more : {X : Type 0} (f : List X → List X → Type 0) (items mid rest : List X) → f items mid → many f mid rest → many f items rest
many_more f items mid rest a b = (suc b.0, (mid, a, b.1))

pub many_none : {X : Type 0} (f : List X → List X → Type 0) (items : List X) → many f items items
many_none f items = (zero, refl)

pub more_results : (a : Agreed) (f : Request) (items mid rest : List Packet) → c.result a f true items mid → c.results a f mid rest → c.results a f items rest
more_results a f items mid rest x b = (b.0, many_more (c.result a f true) items mid b.0 x b.1, b.2)

pub last_result : (a : Agreed) (f : Request) (items rest : List Packet) → c.result a f false items rest → c.results a f items rest
last_result a f items rest x = (items, many_none (c.result a f true) items, x)

-- a file, and its answer
pub answered_file : (a : Agreed) (f : Request) (items mid rest : List Packet) → c.loaded items mid → infile_answer a f mid rest → c.results a f items rest
answered_file a f items mid rest x (inl b) = more_results a f items b.0 rest (inr (inl (mid, x, b.1))) b.2
answered_file a f items mid rest x (inr b) = last_result a f items rest (inr (inl (mid, x, b)))

opening : (a : Agreed) (f : Request) (d more : Bool) (n : ℕ) (items mid rest : List Packet)
    → c.columns a n items mid → cursor a f d more mid rest → c.opened a f d more items rest
opening a Cursor false more n items mid rest x h = (n, (mid, x, h))
opening a _ _ more n items mid rest x h = absurd h

-- columns, and what follows them
pub answered_columns : (a : Agreed) (f : Request) (n : ℕ) (items mid rest : List Packet)
    → c.columns a n items mid → following_columns a f (deprecates_eof a) mid rest → c.results a f items rest
answered_columns a f n items mid rest x (inl h) = ended_rows h.2.2
  where
    ended_rows : rows_answer a f h.2.0 rest → c.results a f items rest
    ended_rows (inl e) = more_results a f items e.0 rest (inr (inr (inl (n, (mid, x, (h.0, h.1, (h.2.0, h.2.1, e.1))))))) e.2
    ended_rows (inr e) = last_result a f items rest (inr (inr (inl (n, (mid, x, (h.0, h.1, (h.2.0, h.2.1, e)))))))
answered_columns a f n items mid rest x (inr (inl h)) = more_results a f items h.0 rest (inr (inr (inr (opening a f (deprecates_eof a) true n items mid h.0 x h.1)))) h.2
answered_columns a f n items mid rest x (inr (inr h)) = last_result a f items rest (inr (inr (inr (opening a f (deprecates_eof a) false n items mid rest x h))))

pub entered : (a : Agreed) (b : After) (items rest : List Packet) → tail_of a (enter b) items rest → following a b items rest
entered a (after.Columns zero) items rest h = (items, refl, h)
entered a _ items rest h = h

columns_end_none : (a : Agreed) (f : Request) (items rest : List Packet) → following a (after.Rows f) items rest → following_columns a f true items rest
columns_end_none a Query items rest h = inl (items, refl, h)
columns_end_none a Execution items rest h = inl (items, refl, h)
columns_end_none a Cursor items rest h = inl (items, refl, h)

-- after the last definition
pub following_last : (a : Agreed) (d : Bool) (b : After) (items rest : List Packet) → tail_of a (defined d b) items rest → following_all a d b items rest
following_last a true (after.Rows f) items rest h = columns_end_none a f items rest h
following_last a true (after.Columns zero) items rest h = (items, refl, (items, refl, h))
following_last a true (after.Columns (suc n)) items rest h = (items, refl, h)
following_last a true after.End items rest h = (items, refl, h)
following_last a true after.Rest items rest h = h
following_last a false b items rest h = h
