-- Sids written from the caller's structs.
use Rattle.std.proofs.Common.{◌≡◌, ◌≤◌, ◌+◌, ◌-◌, ◌^◌, ◌++◌, min, append_assoc, length-append, arith, ℕ, Bool, true, false, ◌||◌, ◌&&◌, List, [], ◌∷◌, length, take, Option, Some, None, if◌then◌else◌, nat_le, refl, sym, ap, ◌∙◌}
use Rattle.std.proofs.lemmas.Bool.{leb-true}
use Rattle.std.proofs.lemmas.List.{append-nil, length-map}
use Rattle.std.proofs.lemmas.List.Folds.{flat_map-map}
use Rattle.std.specs.List.{flat_map, list_all, list_any}
use Rattle.std.specs.Option.{unwrap_or}
use Rattle.std.specs.Prelude.{is_some}
use Rattle.mysql_repl.specs.GnoInterval.{interval}
use Rattle.mysql_repl.specs.Sid.{sid, sid_as, tagged_sid}
use Rattle.mysql_repl.specs.SidBlock.{any_tag, block_bytes, content, head_for}
use Rattle.mysql_repl.specs.Tag.{is_tag}
use Rattle.mysql_repl.specs.TagString.{tag_bytes, tag_of}
use Rattle.mysql_wire.specs.LittleEndian.{length-le_bytes}
use Rattle.mysql_wire.specs.Varlen.{varlen_string_bytes}
use Rattle.mysql_wire.specs.Writing.{le_bytes, saturated}
use Rattle.mysql_packets_c.specs.Sid.{interval_of, intervals_of, sid_held, sid_or, sid_with, sids_held, sids_or, tag_held, tag_or, with_first}
use Rattle.mysql_packets_c.specs.declared.sid.CSid.{CSid}

-- ---- tags

tag-step : (t : Bool) (bytes : List ℕ) (x : Option (List ℕ)) → (if t then Some (Some bytes) else None) ≡ Some x → tag_bytes x ≡ bytes
tag-step true bytes x e = let h : Some bytes ≡ x = cc in ap tag_bytes (sym h)
tag-step false bytes x e = absurd cc

tag-there : (bytes : List ℕ) (x : Option (List ℕ)) → tag_of bytes ≡ Some x → tag_bytes x ≡ bytes
unfolding tag_of
tag-there [] x e = let h : None ≡ x = cc in ap tag_bytes (sym h)
tag-there (b ∷ bytes) x e = tag-step (is_tag (b ∷ bytes)) (b ∷ bytes) x e

held-step : (b : Bool) (bytes : List ℕ) (x : Option (List ℕ)) → (if b then tag_of bytes else None) ≡ Some x → (b ≡ true) × (tag_bytes x ≡ bytes)
held-step true bytes x e = (refl, tag-there bytes x e)
held-step false bytes x e = absurd cc

-- a stored tag is in its place
pub tag-stands : (s : CSid) (x : Option (List ℕ)) → tag_held s ≡ Some x → (s.tag_length ≤ 32) × (tag_bytes (tag_or s) ≡ take s.tag_length s.tag)
unfolding tag_held
tag-stands s x e =
    let found = held-step (nat_le s.tag_length 32) (take s.tag_length s.tag) x e in
    (leb-true s.tag_length 32 found.0, ap (λ (t : Option (Option (List ℕ))). tag_bytes (unwrap_or t None)) e ∙ found.1)

pub no-tag-stands : (s : CSid) → tag_held s ≡ None → tag_bytes (tag_or s) ≡ []
no-tag-stands s e = ap (λ (t : Option (Option (List ℕ))). tag_bytes (unwrap_or t None)) e

pub any-tags : (sids : List CSid) → any_tag (sids_or sids) ≡ list_any (λ s. is_some (tag_or s)) sids
unfolding any_tag
any-tags [] = refl
any-tags (s ∷ sids) = ap (λ (b : Bool). is_some (tag_or s) || b) (any-tags sids)

pub ruleset written_sids = (flat_map-map, length-map, any-tags)

-- ---- stored sids

both-parts : (a b : Bool) → (a && b) ≡ true → (a ≡ true) × (b ≡ true)
both-parts true b h = (refl, h)
both-parts false b h = absurd cc

held-with : (s : CSid) (t : Option (Option (List ℕ))) → is_some t ≡ true → sid_with s t ≡ Some (record { uuid = s.uuid; tag = unwrap_or t None; intervals = intervals_of s.intervals.now })
held-with s None h = absurd cc
held-with s (Some tag) h = refl

held-without : (s : CSid) (t : Option (Option (List ℕ))) → is_some t ≡ false → sid_with s t ≡ None
held-without s None h = refl
held-without s (Some tag) h = absurd cc

-- each tag is valid, so the sids are stored
pub all-held : (sids : List CSid) → list_all (λ s. is_some (tag_held s)) sids ≡ true → sids_held sids ≡ Some (sids_or sids)
unfolding sid_held
all-held [] h = refl
all-held (s ∷ sids) h =
    let both = both-parts (is_some (tag_held s)) (list_all (λ s. is_some (tag_held s)) sids) h in
    ap (λ x. with_first x (sids_held sids)) (held-with s (tag_held s) both.0) ∙ ap (with_first (Some (sid_or s))) (all-held sids both.1)

none-step : (s : CSid) (sids : List CSid) (b c : Bool) → is_some (tag_held s) ≡ b → (c ≡ false → sids_held sids ≡ None) → (b && c) ≡ false → with_first (sid_held s) (sids_held sids) ≡ None
unfolding sid_held
none-step s sids true c e later h = ap (λ x. with_first x (sids_held sids)) (held-with s (tag_held s) e) ∙ ap (with_first (Some (sid_or s))) (later h)
none-step s sids false c e later h = ap (λ x. with_first x (sids_held sids)) (held-without s (tag_held s) e)

pub none-held : (sids : List CSid) → list_all (λ s. is_some (tag_held s)) sids ≡ false → sids_held sids ≡ None
none-held [] h = absurd cc
none-held (s ∷ sids) h = none-step s sids (is_some (tag_held s)) (list_all (λ s. is_some (tag_held s)) sids) refl (λ e. none-held sids e) h

pub ruleset held_sids = (all-held, none-held)

pub ruleset tag_stands = (tag-stands, no-tag-stands)

-- ---- the bytes

pub sid-plain : (s : CSid) (t : Bool) (id : List ℕ) (count : ℕ) → t ≡ false → id ≡ s.uuid → count ≡ length s.intervals.now
    → id ++ (le_bytes 8 count ++ (flat_map (λ i. interval.bytes (interval_of i)) s.intervals.now ++ [])) ≡ (sid_as t).bytes (sid_or s)
unfolding sid
sid-plain s t id count e is n = rw (e, is, n) (simp (append-nil, append_assoc, length-map, flat_map-map))

pub sid-with-tag : (s : CSid) (t : Bool) (id tag : List ℕ) (count : ℕ) → t ≡ true → id ≡ s.uuid → tag ≡ tag_bytes (tag_or s) → count ≡ length s.intervals.now
    → id ++ (varlen_string_bytes tag ++ (le_bytes 8 count ++ (flat_map (λ i. interval.bytes (interval_of i)) s.intervals.now ++ []))) ≡ (sid_as t).bytes (sid_or s)
unfolding tagged_sid
sid-with-tag s t id tag count e is g n = rw (e, is, g, n) (simp (append-nil, append_assoc, length-map, flat_map-map))

pub block-written : (sids : List CSid) (tagged : Bool) (len head : ℕ) → tagged ≡ list_any (λ s. is_some (tag_or s)) sids → head ≡ head_for tagged (length sids)
    → len ≡ min (min (saturated (length (flat_map (λ s. (sid_as tagged).bytes (sid_or s)) sids)) + 8) (2 ^ 64 - 1)) 4294967295
    → le_bytes 4 len ++ (le_bytes 8 head ++ (flat_map (λ s. (sid_as tagged).bytes (sid_or s)) sids ++ [])) ≡ block_bytes (sids_or sids)
unfolding block_bytes content saturated
block-written sids tagged len head any is long =
    let same : any_tag (sids_or sids) ≡ tagged = any-tags sids ∙ sym any in
    let bytes = flat_map (λ s. (sid_as tagged).bytes (sid_or s)) sids in
    let heads : head_for tagged (length (sids_or sids)) ≡ head = ap (head_for tagged) (length-map sids sid_or) ∙ sym is in
    let items : flat_map (sid_as tagged).bytes (sids_or sids) ≡ bytes = flat_map-map (sid_as tagged).bytes sid_or sids in
    let inside : le_bytes 8 (head_for (any_tag (sids_or sids)) (length (sids_or sids))) ++ flat_map (sid_as (any_tag (sids_or sids))).bytes (sids_or sids) ≡ le_bytes 8 head ++ bytes =
    rw (same, heads, items) refl in
    let count : len ≡ min (length (le_bytes 8 head ++ bytes)) 4294967295 = omega (arith, long, length-append (le_bytes 8 head) bytes, length-le_bytes 8 head) in
    rw (inside, ← count, append-nil) refl
