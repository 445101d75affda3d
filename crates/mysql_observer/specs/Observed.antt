-- What an observer was passed, what it knows, and the records that it returns.
use Rattle.std.specs.Prelude.{◌≡◌, ◌⊎◌, ◌&&◌, ℕ, ◌+◌, ◌-◌, ◌^◌, min, max, Bool, true, false, List, [], ◌∷◌, ◌++◌, Some, None, IsTrue}
use Rattle.mysql_conversation.specs.Agreements.{Agreed}
use Rattle.mysql_conversation.specs.Pipelined.{Numbered}
use Rattle.mysql_conversation.specs.Session as sessions
use Rattle.mysql_conversation.specs.Piped.{place}
use Rattle.mysql_conversation.specs.Session.{SessionTaken, SessionResumed, IsLoggedInAmong}
use Rattle.mysql_conversation.specs.declared.packet_kind.InitialPhase.TheVariants.{Commands}
use Rattle.mysql_conversation.specs.declared.packet_kind.PacketKind.{PacketKind}
use Rattle.mysql_conversation.specs.declared.packet_kind.Side.TheVariants.{Client}
use Rattle.mysql_conversation.specs.declared.packet_kind.Side.{Side}
use Rattle.mysql_conversation.specs.declared.pipeline.Pipeline.{Pipeline}
use Rattle.mysql_statements.specs.ResultColumns as columns
use Rattle.mysql_statements.specs.ResultColumns.{ResultColumns}
use Rattle.mysql_observer.specs.Latest.{latest_in}
use Rattle.mysql_observer.specs.Order.{IsEarlyIn}
use Rattle.mysql_observer.specs.PacketContext.{DefinedIn, IsEarly}
use Rattle.mysql_observer.specs.Tracked.{KeptIn, Tracked, TrackedAfter, asks_memory}
use Rattle.mysql_observer.specs.declared.observer.Observer.{Observer}

-- the highest number of an exchange
abbrev pub highest_exchange : List Numbered → ℕ
highest_exchange [] = 0
highest_exchange (x ∷ xs) = max x.number (highest_exchange xs)

-- the highest number of an exchange that came, also before the connection was resumed
abbrev pub last_exchange : Observer → ℕ
last_exchange o = o.last

-- how many commands may wait
abbrev pub limit : Observer → ℕ
limit o = sessions.limit o.session

-- these packets, with these kinds and exchanges, are what it was passed
abbrev pub Observed : Observer → List Numbered → Type 0
Observed o items = SessionTaken o.session items × (o.latest ≡ latest_in items) × (o.before ≡ 0) × (last_exchange o ≡ highest_exchange items)

-- The connection was resumed between two exchanges, under what both sides agreed on, and these packets are what it was passed since. Their
-- exchanges are counted from 1, and those that are returned from this number on.
abbrev pub Resumed : Observer → Agreed → (before : ℕ) → List Numbered → Type 0
Resumed o a before items = SessionResumed o.session a items × (o.latest ≡ latest_in items) × (o.before ≡ before)

-- the same number, counted on
abbrev pub exchange_from : (before number : ℕ) → ℕ
exchange_from before number = min (before + number) (2 ^ 64 - 1)

-- this command came since it was resumed, or nothing, where it is none
abbrev pub ResumedAfter : Observer → Agreed → (before : ℕ) → List ℕ → Type 0
ResumedAfter o a before command =
    ((kind : PacketKind) × (number : ℕ) × Resumed o a before (place Client command kind number ∷ [])) ⊎ Resumed o a before []

-- what it knows
abbrev pub tracked : Observer → Tracked
tracked o = o.tracked

-- the columns of the latest result
abbrev pub result_columns : Observer → ResultColumns
result_columns o = o.columns

-- what is known after the packet, with or without memory: by what both sides agreed on; nothing before that
abbrev pub IsTrackedAs : (memory is_early : Bool) → List Numbered → Numbered → Tracked → Tracked → Type 0
IsTrackedAs memory is_early items x old new =
    ((a : Agreed) × IsLoggedInAmong a (items ++ x ∷ [])
    × TrackedAfter memory is_early a x.packet.kind x.number x.packet.payload old new
    × (memory ≡ false → IsTrue (asks_memory is_early a x.packet.kind x.number x.packet.payload old)))
    ⊎ (((a : Agreed) → IsLoggedInAmong a (items ++ x ∷ []) → ⊥) × (new ≡ record old { params = None; reached = None }) × (memory ≡ true))

-- the same; the packet is a pipelined command or not
abbrev pub Tracks : (memory : Bool) → List Numbered → Numbered → Tracked → Tracked → Type 0
Tracks memory items x old new = (is_early : Bool) × IsEarly is_early items x × IsTrackedAs memory is_early items x old new

-- what is known of result columns after the packet, with or without memory; nothing new before the login
abbrev pub Defines : (memory : Bool) → List Numbered → Numbered → ResultColumns → ResultColumns → Type 0
Defines memory items x old new =
    ((a : Agreed) × IsLoggedInAmong a (items ++ x ∷ [])
    × (new ≡ columns.after memory a x.packet.kind x.packet.payload old)
    × (memory ≡ false → IsTrue (columns.takes_memory a x.packet.kind x.packet.payload old)))
    ⊎ (((a : Agreed) → IsLoggedInAmong a (items ++ x ∷ []) → ⊥) × (new ≡ old) × (memory ≡ true))

-- what the packet says about later ones is known, if there was memory for both the tracked state and the result columns
abbrev pub Knows : (memory : Bool) → List Numbered → Numbered → Observer → Observer → Type 0
Knows memory items x old new =
    (tracks defines : Bool) × (memory ≡ (tracks && defines)) × Tracks tracks items x (tracked old) (tracked new) × Defines defines items x (result_columns old) (result_columns new)

-- the same of a connection that is resumed
abbrev pub KnowsResumed : Agreed → (memory : Bool) → List Numbered → (exchange : ℕ) → Numbered → Observer → Observer → Type 0
KnowsResumed a memory items exchange x old new =
    (tracks defines is_early : Bool) × (memory ≡ (tracks && defines)) × IsEarlyIn a Commands is_early items x
    × KeptIn (Some a) is_early x.packet.kind exchange x.packet.payload tracks (tracked old) (tracked new)
    × DefinedIn (Some a) x.packet.kind x.packet.payload defines (result_columns old) (result_columns new)

-- the tracked state after a sequence of further packets, with enough memory
abbrev pub AreTracked : (before items : List Numbered) → Tracked → Tracked → Type 0
AreTracked before [] old new = new ≡ old
AreTracked before (x ∷ xs) old new = (next : Tracked) × Tracks true before x old next × AreTracked (before ++ x ∷ []) xs next new

-- TLS was requested, and the payloads that follow aren't decrypted
abbrev pub IsEncrypted : Observer → Type 0
IsEncrypted o = sessions.IsEncrypted o.session

-- TLS was requested, the payloads that follow aren't decrypted, and this one is no error that the server sends in clear
abbrev pub IsHidden : Observer → Side → List ℕ → Type 0
IsHidden o side p = sessions.IsHidden o.session side p

-- the client requests TLS
abbrev pub AsksForTls : Observer → Side → List ℕ → Type 0
AsksForTls o side p = sessions.AsksForTls o.session side p

-- the client logs in, and by the greeting and the login both sides agree on compression
abbrev pub AgreesOnCompression : Observer → Side → List ℕ → Type 0
AgreesOnCompression o side p = sessions.AgreesOnCompression o.session side p

-- it is where it was, except for what is known of statements and of the columns of results
abbrev pub IsPlaced : Observer → Observer → Type 0
IsPlaced old new = (new.session ≡ old.session) × (new.latest ≡ old.latest) × (new.before ≡ old.before) × (new.last ≡ old.last)

-- the connection is unchanged
abbrev pub IsSame : Observer → Observer → Type 0
IsSame old new = sessions.IsSame old.session new.session × (new.latest ≡ old.latest) × (new.before ≡ old.before) × (new.last ≡ old.last) × (new.columns ≡ old.columns)

-- the packet, with some kind and exchange, continues what was taken
abbrev pub Comes : Observer → Side → List ℕ → Type 0
Comes o side p = sessions.Comes o.session side p

-- the conversation after the login
abbrev pub Continues : Observer → Pipeline → Type 0
Continues o p = sessions.Continues o.session p
