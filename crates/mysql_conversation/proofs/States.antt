-- Whose turn it is in each state, and what a packet's kind says about it.
use Rattle.std.proofs.Common.{◌≡◌, ℕ, zero, suc, List, [], ◌∷◌, ◌⊎◌, inl, inr, Option, Some, None, refl, sym, ap, subst, ◌∙◌, Bool, true, false, cond}
use Rattle.std.specs.Prelude.{◌&&◌, ◌||◌, not}
use Rattle.std.proofs.lemmas.Bool.{and_parts, cases_Bool, cond_both}
use Rattle.mysql_wire.specs.Flags.{StatusFlags}
use Rattle.mysql_stmt.specs.Stmt.{num_columns, num_params}
use Rattle.mysql_stmt.specs.StmtWithMetadata.{packet_of}
use Rattle.mysql_stmt.specs.declared.stmt_with_metadata.StmtPacketWithMetadata.{StmtPacketWithMetadata}
use Rattle.mysql_conversation.specs.Agreements.{Agreed, deprecates_eof, asks_factors}
use Rattle.mysql_conversation.specs.Payloads.{first_is, definitions_follow, is_one_byte, is_report, asks_cursor, opens_cursor, has_more}
use Rattle.mysql_conversation.specs.Conversation.{code_of, answering, asks, begins_with_login, ends_login, commands, inside, ending, format_of, authentication_kind}
use Rattle.mysql_conversation.specs.Machine.{entrance, step, take_step, client_step, serve, rests, is_rest, is_shut, listens, is_due, is_login, reports, error_step, failed, answers, begun, infile_step, answer_step, logged_in, authentication_step, reply_step, infile_reply_step, columns_step, definitions_end_step, event_step, line_step, last_step, prepared_by, prepared_step, column_end, param_end, last_ok, last_end, acknowledgement_step, enter, defined, less, define, counted, ended, reply_of, line_of, old_end_of, statement_at, ok_status}
use Rattle.mysql_conversation.specs.Expected.{shutting_names}
use Rattle.mysql_conversation.specs.PacketKindTag.{name_of, is_in}
use Rattle.mysql_conversation.specs.Standing.{is_quit}
use Rattle.mysql_conversation.proofs.Classes.{chosen, some_is}
use Rattle.mysql_conversation.specs.declared.packet_kind_tag.PacketKindTag.TheVariants as name
use Rattle.mysql_conversation.specs.declared.packet_kind.RowFormat.TheVariants.{Text, Binary}
use Rattle.mysql_conversation.specs.declared.packet_kind.PacketKind.{PacketKind}
use Rattle.mysql_conversation.specs.declared.packet_kind.PacketKind.TheVariants as kind
use Rattle.mysql_conversation.specs.declared.packet_kind.InitialPhase.{InitialPhase}
use Rattle.mysql_conversation.specs.declared.packet_kind.InitialPhase.TheVariants as opened_at
use Rattle.mysql_conversation.specs.declared.packet_kind.Side.{Side}
use Rattle.mysql_conversation.specs.declared.packet_kind.Side.TheVariants.{Client, Server}
use Rattle.mysql_conversation.specs.declared.state.After.{After}
use Rattle.mysql_conversation.specs.declared.state.After.TheVariants as after
use Rattle.mysql_conversation.specs.declared.state.Answer.{Answer}
use Rattle.mysql_conversation.specs.declared.state.Answer.TheVariants as answer
use Rattle.mysql_conversation.specs.declared.state.Line.{Line}
use Rattle.mysql_conversation.specs.declared.state.Line.TheVariants as line
use Rattle.mysql_conversation.specs.declared.state.Reply.{Reply}
use Rattle.mysql_conversation.specs.declared.state.Reply.TheVariants as reply
use Rattle.mysql_conversation.specs.declared.state.Request.{Request}
use Rattle.mysql_conversation.specs.declared.state.Request.TheVariants.{Query, Execution, Cursor}
use Rattle.mysql_conversation.specs.declared.state.State.{State}
use Rattle.mysql_conversation.specs.declared.state.State.TheVariants as state

-- a command may come, or the client may answer, or it is the server's turn, or the connection is over
abbrev pub Turn : State → Type 0
Turn s =
    (s ≡ state.Rest)
    ⊎ (((listens s ≡ true) × (rests s ≡ false) × (is_due s ≡ false))
    ⊎ (((is_due s ≡ true) × (rests s ≡ false) × (listens s ≡ false))
    ⊎ ((is_shut s ≡ true) × (rests s ≡ true) × (listens s ≡ false) × (is_due s ≡ false))))

pub turn : (s : State) → Turn s
turn state.Rest = inl refl
turn (state.Authentication login true) = inr (inl (refl, refl, refl))
turn (state.Infile r) = inr (inl (refl, refl, refl))
turn state.Clone = inr (inr (inr (refl, refl, refl, refl)))
turn state.Quit = inr (inr (inr (refl, refl, refl, refl)))
turn state.Over = inr (inr (inr (refl, refl, refl, refl)))
turn _ = inr (inr (inl (refl, refl, refl)))

-- an exchange runs, or none does
pub which_rests : (s : State) → (rests s ≡ true) ⊎ (rests s ≡ false)
which_rests s = elim (turn s) [
  | inl e ↦ inl (ap rests e)
  | inr (inl t) ↦ inr t.1
  | inr (inr (inl t)) ↦ inr t.1
  | inr (inr (inr t)) ↦ inl t.1
]

pub idle_is : (s : State) → is_rest s ≡ true → s ≡ state.Rest
idle_is state.Rest h = refl
idle_is _ h = absurd cc

pub running_idle : (s : State) → rests s ≡ false → is_rest s ≡ false
running_idle state.Rest h = absurd cc
running_idle _ h = refl

pub running_shut : (s : State) → rests s ≡ false → is_shut s ≡ false
running_shut state.Clone h = absurd cc
running_shut state.Quit h = absurd cc
running_shut state.Over h = absurd cc
running_shut _ h = refl

pub shut_idle : (s : State) → is_shut s ≡ true → is_rest s ≡ false
shut_idle state.Rest h = absurd cc
shut_idle _ h = refl

-- it is the server's turn if an exchange is running and the client isn't asked
pub due_of : (s : State) → rests s ≡ false → listens s ≡ false → is_due s ≡ true
due_of s n l = elim (turn s) [
  | inl e ↦ (let no : rests s ≡ true = ap rests e in absurd cc)
  | inr (inl m) ↦ absurd cc
  | inr (inr (inl d)) ↦ d.0
  | inr (inr (inr d)) ↦ absurd cc
]

pub due_runs : (s : State) → is_due s ≡ true → (rests s ≡ false) × (listens s ≡ false)
due_runs s h = elim (turn s) [
  | inl e ↦ (let no : is_due s ≡ false = ap is_due e in absurd cc)
  | inr (inl m) ↦ absurd cc
  | inr (inr (inl d)) ↦ (d.1, d.2)
  | inr (inr (inr d)) ↦ absurd cc
]

not_true : (b : Bool) → not b ≡ true → b ≡ false
not_true true h = absurd cc
not_true false h = refl

-- a progress report comes at the server's turn, outside a login
pub reports_parts : (s : State) → reports s ≡ true → (is_due s ≡ true) × (is_login s ≡ false)
reports_parts s h = let b = and_parts (is_due s) (not (is_login s)) h in (b.0, not_true (is_login s) b.1)

pub entrance_login : (o : InitialPhase) → is_login (entrance o) ≡ begins_with_login o
entrance_login opened_at.Login = refl
entrance_login opened_at.Commands = refl

pub entrance_listens : (o : InitialPhase) → listens (entrance o) ≡ false
entrance_listens opened_at.Login = refl
entrance_listens opened_at.Commands = refl

-- ---- a packet's kind says whether the client is asked after it, and whether it is inside an exchange

-- what the client is asked for, whether a login is running, and whether the connection is over
abbrev pub stance : State → Bool × Bool × Bool
stance s = (listens s, is_login s, is_shut s)

abbrev pub quiet : Bool × Bool × Bool
quiet = (false, false, false)

-- after a packet of this kind in an exchange
abbrev Listening : PacketKind → State → Type 0
Listening k m = stance m ≡ (asks k, false, false)

asking : (x y : Bool) → x ≡ y → ◌≡◌ {A = Bool × Bool × Bool} (x, false, false) (y, false, false)
asking x y h = ap (λ b. (b, false, false)) h

pub stance_listens : (m : State) (b : Bool) → stance m ≡ (b, false, false) → listens m ≡ b
stance_listens m b h = ap (λ (x : Bool × Bool × Bool). x.0) h

pub stance_login : (m : State) (b : Bool) → stance m ≡ (b, false, false) → is_login m ≡ false
stance_login m b h = ap (λ (x : Bool × Bool × Bool). x.1) h

pub stance_shut : (m : State) (b : Bool) → stance m ≡ (b, false, false) → is_shut m ≡ false
stance_shut m b h = ap (λ (x : Bool × Bool × Bool). x.2) h

abbrev Fits : Option (PacketKind × State) → Type 0
Fits None = Unit {0}
Fits (Some x) = Listening x.0 x.1 × (inside x.0 ≡ true)

-- what holds of either branch
module _ {A : Type 0} (P : A → Type 0) where
  pub by_cond : (b : Bool) (x y : A) → P x → P y → P (cond b x y)
  by_cond true x y f g = f
  by_cond false x y f g = g

ended_listens : (r : Request) (more : Bool) → stance (ended r more) ≡ quiet
ended_listens r true = refl
ended_listens r false = refl

enter_listens : (b : After) → stance (enter b) ≡ quiet
enter_listens (after.Rows r) = refl
enter_listens (after.Columns zero) = refl
enter_listens _ = refl

defined_listens : (d : Bool) (b : After) → stance (defined d b) ≡ quiet
defined_listens true b = enter_listens b
defined_listens false b = refl

less_listens : (d : Bool) (n : ℕ) (b : After) → stance (less d n b) ≡ quiet
less_listens d zero b = defined_listens d b
less_listens d (suc n) b = refl

define_listens : (n : ℕ) (b : After) → stance (define n b) ≡ quiet
define_listens zero b = enter_listens b
define_listens (suc n) b = refl

counted_listens : (d : Bool) (n : ℕ) (follow : Bool) (b : After) → stance (counted d n follow b) ≡ quiet
counted_listens d n true b = define_listens n b
counted_listens d n false b = defined_listens d b

-- a command that may end the connection
abbrev pub may_shut : Answer → Bool
may_shut answer.Quit = true
may_shut answer.Clone = true
may_shut _ = false

-- no command comes after COM_QUIT
pub answers_shut : (r : Answer) → is_shut (answers r) ≡ is_quit r
answers_shut (answer.Results r) = refl
answers_shut _ = refl

pub answers_quiet : (r : Answer) → listens (answers r) ≡ false
answers_quiet answer.Quit = refl
answers_quiet _ = refl

ending_asks : (d : Bool) → asks (ending d) ≡ false
ending_asks true = refl
ending_asks false = refl

ending_inside : (d : Bool) → inside (ending d) ≡ true
ending_inside true = refl
ending_inside false = refl

fits_end : (d : Bool) (m : State) → stance m ≡ quiet → Fits (Some (ending d, m))
fits_end d m h = (h ∙ asking false (asks (ending d)) (sym (ending_asks d)), ending_inside d)

-- what a server sends during authentication, with or without next factors
abbrev pub kind_by : Bool → List ℕ → PacketKind
kind_by factors p =
    cond (first_is 0xfe p) (cond (is_one_byte p) kind.OldAuthSwitch kind.AuthSwitch)
    (cond (first_is 1 p) kind.AuthMoreData (cond (first_is 2 p && factors) kind.AuthNextFactor kind.AuthPluginData))

pub by_kind : (P : PacketKind → Type 0) (factors : Bool) (p : List ℕ) → P kind.OldAuthSwitch → P kind.AuthSwitch → P kind.AuthMoreData → (factors ≡ true → P kind.AuthNextFactor) → P kind.AuthPluginData
    → P (kind_by factors p)
by_kind P factors p old switch more factor plugin =
    by_cond P (first_is 0xfe p) _ _ (by_cond P (is_one_byte p) _ _ old switch)
    (by_cond P (first_is 1 p) _ _ more (cond_both (first_is 2 p && factors) _ _ P (λ e. factor (and_parts (first_is 2 p) factors e).1) (λ e. plugin)))

kind_asks : (a : Agreed) (p : List ℕ) → asks (authentication_kind a p) ≡ true
kind_asks a p = by_kind (λ k. asks k ≡ true) (asks_factors a) p refl refl refl (λ e. refl) refl

kind_inside : (a : Agreed) (p : List ℕ) → inside (authentication_kind a p) ≡ true
kind_inside a p = by_kind (λ k. inside k ≡ true) (asks_factors a) p refl refl refl (λ e. refl) refl

fits_status : (status : Option StatusFlags) → Fits (logged_in status)
fits_status None = tt
fits_status (Some status) = by_cond Fits (has_more status) _ _ tt (refl, refl)

fits_authentication : (a : Agreed) (p : List ℕ) (status : Option StatusFlags) → Fits (authentication_step a false p status)
fits_authentication a p status = by_cond Fits (first_is 0 p) _ _ (fits_status status) (asking true (asks (authentication_kind a p)) (sym (kind_asks a p)), kind_inside a p)

-- the same for a login
abbrev FitsLogin : Option (PacketKind × State) → Type 0
FitsLogin None = Unit {0}
FitsLogin (Some x) = (listens x.1 ≡ asks x.0) × (inside x.0 ≡ true) × (is_shut x.1 ≡ false) × (is_in (name_of x.0) (name.Error ∷ []) ≡ false)

login_status : (status : Option StatusFlags) → FitsLogin (logged_in status)
login_status None = tt
login_status (Some status) = by_cond FitsLogin (has_more status) _ _ tt (refl, refl, refl, refl)

kind_no_error : (a : Agreed) (p : List ℕ) → is_in (name_of (authentication_kind a p)) (name.Error ∷ []) ≡ false
kind_no_error a p = by_kind (λ k. is_in (name_of k) (name.Error ∷ []) ≡ false) (asks_factors a) p refl refl refl (λ e. refl) refl

fits_login : (a : Agreed) (p : List ℕ) (status : Option StatusFlags) → FitsLogin (authentication_step a true p status)
fits_login a p status = by_cond FitsLogin (first_is 0 p) _ _ (login_status status) (sym (kind_asks a p), kind_inside a p, refl, kind_no_error a p)

fits_reply : (d : Bool) (r : Request) (x : Option Reply) → Fits (reply_step d r x)
fits_reply d r None = tt
fits_reply d r (Some (reply.Ok more)) = (ended_listens r more, refl)
fits_reply d r (Some reply.Infile) = (refl, refl)
fits_reply d r (Some (reply.Columns n follow)) = (counted_listens d n follow (after.Rows r), refl)

fits_infile_reply : (r : Request) (x : Option Reply) → Fits (infile_reply_step r x)
fits_infile_reply r (Some (reply.Ok more)) = (ended_listens r more, refl)
fits_infile_reply r _ = tt

fits_columns : (status : StatusFlags) (r : Request) → Fits (columns_step status r)
fits_columns status Query = (refl, refl)
fits_columns status Execution = (refl, refl)
fits_columns status Cursor = by_cond Fits (opens_cursor status) _ _ (ended_listens Cursor (has_more status), refl) (refl, refl)

fits_definitions_end : (b : After) (o : Option StatusFlags) → Fits (definitions_end_step b o)
fits_definitions_end (after.Rows r) (Some status) = fits_columns status r
fits_definitions_end (after.Columns n) (Some status) = (enter_listens (after.Columns n), refl)
fits_definitions_end after.End (Some status) = (refl, refl)
fits_definitions_end after.Rest (Some status) = (refl, refl)
fits_definitions_end _ _ = tt

fits_event : (b : Bool) (o : Option StatusFlags) → Fits (event_step b o)
fits_event true o = (refl, refl)
fits_event false None = tt
fits_event false (Some status) = (refl, refl)

fits_line : (d : Bool) (r : Request) (l : Option Line) → Fits (line_step d r l)
fits_line d r None = tt
fits_line d r (Some line.Row) = (refl, refl)
fits_line d r (Some (line.End more)) = fits_end d (ended r more) (ended_listens r more)

fits_last : (d : Bool) (k : PacketKind) (s : State) (l : Option Line) → Listening k s → inside k ≡ true → Fits (last_step d k s l)
fits_last d k s None h i = tt
fits_last d k s (Some line.Row) h i = (h, i)
fits_last d k s (Some (line.End more)) h i = fits_end d state.Rest refl

column_end_listens : (n : ℕ) → stance (column_end n) ≡ quiet
column_end_listens zero = refl
column_end_listens (suc n) = refl

param_end_listens : (params columns : ℕ) → stance (param_end params columns) ≡ quiet
param_end_listens zero columns = column_end_listens columns
param_end_listens (suc n) zero = refl
param_end_listens (suc n) (suc m) = refl

prepared_listens : (d follow : Bool) (columns params : ℕ) → stance (prepared_by d follow columns params) ≡ quiet
prepared_listens d true columns params = define_listens params (after.Columns columns)
prepared_listens true false columns params = refl
prepared_listens false false columns params = param_end_listens params columns

fits_prepared : (d : Bool) (s : Option StmtPacketWithMetadata) → Fits (prepared_step d s)
fits_prepared d None = tt
fits_prepared d (Some s) = (prepared_listens d (definitions_follow s) (num_columns (packet_of s)) (num_params (packet_of s)), refl)

-- only after the OK packet that answers COM_CLONE, no more commands come
fits_last_ok : (r : Option Reply) → Fits (last_ok state.Rest r)
fits_last_ok (Some (reply.Ok more)) = by_cond Fits more _ _ tt (refl, refl)
fits_last_ok _ = tt

fits_last_end : (d may_end more : Bool) → Fits (last_end d may_end more)
fits_last_end d may_end more = by_cond Fits (more || not may_end) _ _ tt (fits_end d state.Rest refl)

fits_acknowledgement : (d may_end : Bool) (l : Option Line) (r : Option Reply) → Fits (acknowledgement_step d may_end l r)
fits_acknowledgement d may_end (Some (line.End more)) r = fits_last_end d may_end more
fits_acknowledgement d may_end (Some line.Row) r = fits_last_ok r
fits_acknowledgement d may_end None r = tt

-- an exchange other than a login and COM_CLONE is running
abbrev pub is_plain : State → Bool
is_plain (state.Authentication true is_asked) = false
is_plain state.CloneReply = false
is_plain s = not (rests s)

fits_serve : (a : Agreed) (s : State) (p : List ℕ) → is_plain s ≡ true → Fits (serve a s p)
fits_serve a (state.Authentication false b) p h = fits_authentication a p (ok_status a p)
fits_serve a (state.Infile r) p h = tt
fits_serve a (state.Reply r) p h = fits_reply (deprecates_eof a) r (reply_of a p)
fits_serve a (state.InfileReply r) p h = fits_infile_reply r (reply_of a p)
fits_serve a (state.Definitions n b) p h = (less_listens (deprecates_eof a) n b, refl)
fits_serve a (state.DefinitionsEnd b) p h = fits_definitions_end b (old_end_of a p)
fits_serve a (state.Rows r) p h = fits_line (deprecates_eof a) r (line_of a (format_of r) p)
fits_serve a state.Prepared p h = fits_prepared (deprecates_eof a) (statement_at a p)
fits_serve a state.Fetch p h = fits_last (deprecates_eof a) (kind.Row Binary) state.Fetch (line_of a Binary p) refl refl
fits_serve a (state.Acknowledgement may_end) p h = fits_acknowledgement (deprecates_eof a) may_end (line_of a Text p) (reply_of a p)
fits_serve a state.Text p h = (refl, refl)
fits_serve a state.Fields p h = fits_last (deprecates_eof a) kind.FieldListColumn state.Fields (line_of a Text p) refl refl
fits_serve a state.Events p h = fits_event (first_is 0 p) (old_end_of a p)
fits_serve a state.SessionError p h = tt
fits_serve a _ p h = absurd cc

fits_infile : (r : Request) (p : List ℕ) → Fits (infile_step r p)
fits_infile r [] = (refl, refl)
fits_infile r (b ∷ p) = (refl, refl)

fits_answer : (b : Bool) → Fits (answer_step false b)
fits_answer true = (refl, refl)
fits_answer false = tt

-- the client's packets while an exchange is running
fits_client : (s : State) (p : List ℕ) → is_plain s ≡ true → Fits (client_step s p)
fits_client state.Rest p h = absurd cc
fits_client (state.Authentication true b) p h = absurd cc
fits_client (state.Authentication false b) p h = fits_answer b
fits_client (state.Infile r) p h = fits_infile r p
fits_client state.Events p h = by_cond Fits (first_is 0xef p) _ _ (refl, refl) tt
fits_client state.CloneReply p h = absurd cc
fits_client state.Clone p h = absurd cc
fits_client state.Quit p h = absurd cc
fits_client state.Over p h = absurd cc
fits_client _ p h = tt

fitting : (o : Option (PacketKind × State)) (k : PacketKind) (m : State) → Fits o → o ≡ Some (k, m) → Fits (Some (k, m))
fitting o k m f e = subst (λ o. Fits o) e f

-- ---- what a packet says about the state after it, while an exchange is running and otherwise

-- its kind says whether the client is asked after it; it is inside an exchange exactly if one is running; and no command comes after it
-- exactly if its name says so
abbrev Says : State → PacketKind → State → Type 0
Says s k m = (listens m ≡ asks k) × (inside k ≡ not (rests s)) × (is_shut m ≡ is_in (name_of k) (shutting_names s))

plain_shuts : (s : State) → is_plain s ≡ true → (rests s ≡ false) × (shutting_names s ≡ [])
plain_shuts state.Rest h = absurd cc
plain_shuts (state.Authentication true b) h = absurd cc
plain_shuts state.CloneReply h = absurd cc
plain_shuts state.Clone h = absurd cc
plain_shuts state.Quit h = absurd cc
plain_shuts state.Over h = absurd cc
plain_shuts _ h = (refl, refl)

plain_says : (s : State) (k : PacketKind) (m : State) → is_plain s ≡ true → Fits (Some (k, m)) → Says s k m
plain_says s k m h f =
    let n = plain_shuts s h in
    (stance_listens m (asks k) f.0, f.1 ∙ ap not (sym n.0), stance_shut m (asks k) f.0 ∙ sym (ap (λ xs. is_in (name_of k) xs) n.1))

login_says : (b : Bool) (o : Option (PacketKind × State)) (k : PacketKind) (m : State) → FitsLogin o → o ≡ Some (k, m) → Says (state.Authentication true b) k m
login_says b o k m f e = let g : FitsLogin (Some (k, m)) = subst (λ o. FitsLogin o) e f in (g.0, g.1, g.2 ∙ sym g.3)

of_one : (s : State) (j k : PacketKind) (n m : State) → ◌≡◌ {A = Option (PacketKind × State)} (Some (j, n)) (Some (k, m)) → Says s j n → Says s k m
of_one s j k n m e = subst (λ (x : PacketKind × State). Says s x.0 x.1) (some_is e)

clone_ok_says : (r : Option Reply) (k : PacketKind) (m : State) → last_ok state.Clone r ≡ Some (k, m) → Says state.CloneReply k m
clone_ok_says (Some (reply.Ok false)) k m h = of_one state.CloneReply kind.Ok k state.Clone m h (refl, refl, refl)
clone_ok_says _ k m h = absurd cc

served_says : (a : Agreed) (s : State) (p : List ℕ) (k : PacketKind) (m : State) → serve a s p ≡ Some (k, m) → Says s k m
served_says a state.Rest p k m h = absurd cc
served_says a (state.Authentication true b) p k m h = login_says b _ k m (fits_login a p (ok_status a p)) h
served_says a state.CloneReply p k m h = clone_ok_says (reply_of a p) k m h
served_says a state.Clone p k m h = of_one state.Clone kind.Clone k state.Clone m h (refl, refl, refl)
served_says a state.Over p k m h = absurd cc
served_says a state.Quit p k m h = absurd cc
served_says a s p k m h = plain_says s k m refl (fitting (serve a s p) k m (fits_serve a s p refl) h)

error_says : (s : State) (k : PacketKind) (m : State) → error_step s ≡ Some (k, m) → Says s k m
error_says (state.Authentication true b) k m h = of_one (state.Authentication true b) kind.Error k state.Over m h (refl, refl, refl)
error_says state.Over k m h = absurd cc
error_says s k m h = of_one s _ k _ m h (refl, refl, refl)

pub failed_clone : (r : Bool) → failed r state.Clone ≡ Some (kind.Clone, state.Clone)
failed_clone true = refl
failed_clone false = refl

-- a packet that begins with ff is an error, or one of the clone plugin
pub failed_is : (r : Bool) (s : State) (k : PacketKind) (m : State) → failed r s ≡ Some (k, m) → ((r ≡ false) × (error_step s ≡ Some (k, m))) ⊎ ((s ≡ state.Clone) × (kind.Clone ≡ k) × (state.Clone ≡ m))
failed_is r state.Clone k m h = let e = some_is (sym (failed_clone r) ∙ h) in inr (refl, ap (λ (x : PacketKind × State). x.0) e, ap (λ (x : PacketKind × State). x.1) e)
failed_is true _ k m h = absurd cc
failed_is false _ k m h = inl (refl, h)

pub failed_no_report : (s : State) → failed false s ≡ error_step s
failed_no_report state.Clone = refl
failed_no_report _ = refl

failed_says : (r : Bool) (s : State) (k : PacketKind) (m : State) → failed r s ≡ Some (k, m) → Says s k m
failed_says r s k m h = elim (failed_is r s k m h) [
  | inl e ↦ error_says s k m e.1
  | inr e ↦ subst (λ s. Says s k m) (sym e.0) (subst (λ k. Says state.Clone k m) e.1 (subst (λ m. Says state.Clone kind.Clone m) e.2 (refl, refl, refl)))
]

step_says : (a : Agreed) (s : State) (p : List ℕ) (k : PacketKind) (m : State) → step a s Server p ≡ Some (k, m) → Says s k m
step_says a s p k m h = elim (chosen (first_is 0xff p) _ _ _ h) [
  | inl e ↦ failed_says (is_report a p) s k m e.1
  | inr e ↦ served_says a s p k m e.1
]

due_shuts : (s : State) → is_due s ≡ true → (is_shut s ≡ false) × (is_in name.ProgressReport (shutting_names s) ≡ false)
due_shuts state.Rest h = absurd cc
due_shuts state.Clone h = absurd cc
due_shuts state.Quit h = absurd cc
due_shuts state.Over h = absurd cc
due_shuts (state.Authentication true b) h = (refl, refl)
due_shuts _ h = (refl, refl)

take_says : (a : Agreed) (s : State) (p : List ℕ) (k : PacketKind) (m : State) → take_step a s Server p ≡ Some (k, m) → Says s k m
take_says a s p k m h = elim (chosen (is_report a p && reports s) _ _ _ h) [
  | inl r ↦ (let due = (reports_parts s (and_parts (is_report a p) (reports s) r.0).1).0 in let d = due_runs s due in let u = due_shuts s due in
      subst (λ (x : PacketKind × State). Says s x.0 x.1) (some_is r.1) (d.1, ap not (sym d.0), u.0 ∙ sym u.1))
  | inr r ↦ step_says a s p k m r.1
]

-- whether commands may follow a packet of the server is determined by its name
pub take_shuts : (a : Agreed) (s : State) (p : List ℕ) (k : PacketKind) (m : State) → take_step a s Server p ≡ Some (k, m) → is_shut m ≡ is_in (name_of k) (shutting_names s)
take_shuts a s p k m h = (take_says a s p k m h).2

-- ---- of the client

-- between exchanges there are commands
begun_listens : (code : ℕ) (r : Option Answer) (k : PacketKind) (m : State) → begun code r ≡ Some (k, m) → (listens m ≡ asks k) × (inside k ≡ false)
begun_listens code None k m h = absurd cc
begun_listens code (Some r) k m h = subst (λ (x : PacketKind × State). (listens x.1 ≡ asks x.0) × (inside x.0 ≡ false)) (some_is h) (answers_quiet r, refl)

login_client : (b : Bool) (k : PacketKind) (m : State) → answer_step true b ≡ Some (k, m) → (listens m ≡ asks k) × (inside k ≡ true)
login_client true k m h = subst (λ (x : PacketKind × State). (listens x.1 ≡ asks x.0) × (inside x.0 ≡ true)) (some_is h) (refl, refl)
login_client false k m h = absurd cc

client_listens : (s : State) (p : List ℕ) (k : PacketKind) (m : State) → client_step s p ≡ Some (k, m) → (listens m ≡ asks k) × (inside k ≡ not (rests s))
client_listens state.Rest p k m h = begun_listens (code_of p) (answering (code_of p) (asks_cursor p)) k m h
client_listens (state.Authentication true b) p k m h = login_client b k m h
client_listens state.CloneReply p k m h = absurd cc
client_listens state.Clone p k m h = subst (λ (x : PacketKind × State). (listens x.1 ≡ asks x.0) × (inside x.0 ≡ false)) (some_is h) (refl, refl)
client_listens state.Over p k m h = absurd cc
client_listens state.Quit p k m h = absurd cc
client_listens s p k m h =
    let f = fitting (client_step s p) k m (fits_client s p refl) h in
    (stance_listens m (asks k) f.0, f.1)

-- ---- of both

-- a packet's kind says whether the client is asked after it, and a packet is inside an exchange exactly if one is running
pub step_listens : (a : Agreed) (s : State) (side : Side) (p : List ℕ) (k : PacketKind) (m : State) → step a s side p ≡ Some (k, m) → (listens m ≡ asks k) × (inside k ≡ not (rests s))
step_listens a s Client p k m h = client_listens s p k m h
step_listens a s Server p k m h = let f = step_says a s p k m h in (f.0, f.1)

pub take_listens : (a : Agreed) (s : State) (side : Side) (p : List ℕ) (k : PacketKind) (m : State) → take_step a s side p ≡ Some (k, m) → (listens m ≡ asks k) × (inside k ≡ not (rests s))
take_listens a s Client p k m h = client_listens s p k m h
take_listens a s Server p k m h = let f = take_says a s p k m h in (f.0, f.1)

-- ---- no login begins in an exchange

answers_login : (r : Answer) → is_login (answers r) ≡ false
answers_login answer.Quit = refl
answers_login _ = refl

abbrev NoLogin : Option (PacketKind × State) → Type 0
NoLogin None = Unit {0}
NoLogin (Some x) = is_login x.1 ≡ false

no_login : (o : Option (PacketKind × State)) (k : PacketKind) (m : State) → NoLogin o → o ≡ Some (k, m) → is_login m ≡ false
no_login o k m f e = subst (λ o. NoLogin o) e f

fits_no_login : (o : Option (PacketKind × State)) → Fits o → NoLogin o
fits_no_login None f = tt
fits_no_login (Some x) f = stance_login x.1 (asks x.0) f.0

begun_no_login : (code : ℕ) (r : Option Answer) → NoLogin (begun code r)
begun_no_login code None = tt
begun_no_login code (Some r) = answers_login r

clone_no_login : (r : Option Reply) → NoLogin (last_ok state.Clone r)
clone_no_login (Some (reply.Ok false)) = refl
clone_no_login _ = tt

client_no_login : (s : State) (p : List ℕ) → is_login s ≡ false → NoLogin (client_step s p)
client_no_login state.Rest p l = begun_no_login (code_of p) (answering (code_of p) (asks_cursor p))
client_no_login (state.Authentication true b) p l = absurd cc
client_no_login state.CloneReply p l = tt
client_no_login state.Clone p l = refl
client_no_login state.Over p l = tt
client_no_login state.Quit p l = tt
client_no_login s p l = fits_no_login (client_step s p) (fits_client s p refl)

serve_no_login : (a : Agreed) (s : State) (p : List ℕ) → is_login s ≡ false → NoLogin (serve a s p)
serve_no_login a state.Rest p l = tt
serve_no_login a (state.Authentication true b) p l = absurd cc
serve_no_login a state.CloneReply p l = clone_no_login (reply_of a p)
serve_no_login a state.Clone p l = refl
serve_no_login a state.Over p l = tt
serve_no_login a state.Quit p l = tt
serve_no_login a s p l = fits_no_login (serve a s p) (fits_serve a s p refl)

error_no_login : (s : State) → NoLogin (error_step s)
error_no_login (state.Authentication true b) = refl
error_no_login state.Over = tt
error_no_login _ = refl

failed_no_login : (r : Bool) (s : State) (k : PacketKind) (m : State) → failed r s ≡ Some (k, m) → is_login m ≡ false
failed_no_login r s k m h = elim (failed_is r s k m h) [
  | inl e ↦ no_login (error_step s) k m (error_no_login s) e.1
  | inr e ↦ ap is_login (sym e.2)
]

pub stays_no_login : (a : Agreed) (s : State) (side : Side) (p : List ℕ) (k : PacketKind) (m : State) → is_login s ≡ false → step a s side p ≡ Some (k, m) → is_login m ≡ false
stays_no_login a s Client p k m l h = no_login (client_step s p) k m (client_no_login s p l) h
stays_no_login a s Server p k m l h = elim (chosen (first_is 0xff p) _ _ _ h) [
  | inl e ↦ failed_no_login (is_report a p) s k m e.1
  | inr e ↦ no_login (serve a s p) k m (serve_no_login a s p l) e.1
]

-- ---- a packet's kind says whether a login is over after it

pub login_is : (s : State) → is_login s ≡ true → (b : Bool) × (s ≡ state.Authentication true b)
login_is (state.Authentication true b) h = (b, refl)
login_is _ h = absurd cc

kind_goes_on : (a : Agreed) (p : List ℕ) → ends_login (authentication_kind a p) ≡ false
kind_goes_on a p = by_kind (λ k. ends_login k ≡ false) (asks_factors a) p refl refl refl (λ e. refl) refl

abbrev Ends : Option (PacketKind × State) → Type 0
Ends None = Unit {0}
Ends (Some x) = is_login x.1 ≡ not (ends_login x.0)

ends_status : (status : Option StatusFlags) → Ends (logged_in status)
ends_status None = tt
ends_status (Some status) = by_cond Ends (has_more status) _ _ tt refl

ends_served : (a : Agreed) (p : List ℕ) (status : Option StatusFlags) → Ends (authentication_step a true p status)
ends_served a p status = by_cond Ends (first_is 0 p) _ _ (ends_status status) (ap not (sym (kind_goes_on a p)))

ends_failed : (is_report b : Bool) → Ends (failed is_report (state.Authentication true b))
ends_failed true b = tt
ends_failed false b = refl

ends_client : (b : Bool) → Ends (answer_step true b)
ends_client true = refl
ends_client false = tt

ends_step : (a : Agreed) (b : Bool) (side : Side) (p : List ℕ) → Ends (step a (state.Authentication true b) side p)
ends_step a b Client p = ends_client b
ends_step a b Server p = by_cond Ends (first_is 0xff p) _ _ (ends_failed (is_report a p) b) (ends_served a p (ok_status a p))

pub step_login : (a : Agreed) (s : State) (side : Side) (p : List ℕ) (k : PacketKind) (m : State) → step a s side p ≡ Some (k, m) → is_login m ≡ (is_login s && not (ends_login k))
step_login a s side p k m h = elim (cases_Bool (is_login s)) [
  | inl l ↦ (let e = login_is s l in
      subst (λ b. is_login m ≡ (b && not (ends_login k))) (sym l) (subst (λ o. Ends o) (sym (ap (λ s. step a s side p) e.1) ∙ h) (ends_step a e.0 side p)))
  | inr n ↦ stays_no_login a s side p k m n h ∙ ap (λ b. b && not (ends_login k)) (sym n)
]

-- an error ends the running exchange, unless it is a login
pub error_rests : (s : State) → rests s ≡ false → is_login s ≡ false → error_step s ≡ Some (kind.Error, state.Rest)
error_rests state.Rest n l = absurd cc
error_rests (state.Authentication true b) n l = absurd cc
error_rests state.Clone n l = absurd cc
error_rests state.Over n l = absurd cc
error_rests state.Quit n l = absurd cc
error_rests _ n l = refl

-- an error ends the running exchange
pub error_ends : (s : State) → rests s ≡ false → (m : State) × (error_step s ≡ Some (kind.Error, m)) × (rests m ≡ true)
error_ends s n = elim (cases_Bool (is_login s)) [
  | inl l ↦ (state.Over, login_error s l, refl)
  | inr l ↦ (state.Rest, error_rests s n l, refl)
]
  where
    login_error : (s : State) → is_login s ≡ true → error_step s ≡ Some (kind.Error, state.Over)
    login_error (state.Authentication true b) h = refl
    login_error _ h = absurd cc

-- no packet inside an exchange is a command
pub inside_command : (k : PacketKind) → inside k ≡ true → commands k ≡ false
inside_command (kind.Command code) h = absurd cc
inside_command _ h = refl
