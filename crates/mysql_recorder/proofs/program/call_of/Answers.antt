use Rattle.std.proofs.Common.{◌≡◌, ◌∙◌, ◌+◌, ◌<◌, ℕ, sym, ap, List, ◌∷◌, length, drop, get_or, map, Some, None, true, arith, string_bytes, String, Global}
use Rattle.mysql_recorder.specs.declared.entry.Layout.TheVariants.{Json}
use Rattle.mysql_recorder.specs.Calls.{asked_after, nothing_asked}
use Rattle.mysql_recorder.proofs.Calls.{next_of, goes_json, goes_sum, goes_deciphered, caps_to, mariadb_to, longest_to, good, bad_word, too_many, state_is, ended, length_map, number_given}
use Rattle.mysql_recorder.proofs.program.call_of.Goals as goal
use Rattle.mysql_recorder.proofs.program.call_of.Goals.{in-text, in-text-2, in-text-3, in_default+in-Some+in_ok-flags_of-in_default, in_default+in_default-strip_prefix+in-Some-strip_prefix+in_ok-mariadb-in_default, in_default+in_default-strip_prefix+in_default-strip_prefix-2+in_ok-call-in_default}

abbrev words : List (String Global) → List (List ℕ)
words texts = map string_bytes texts

next_at : (texts : List (String Global)) (i : ℕ) (word : List ℕ) (text : String Global) → i < length texts → text ≡ get_or texts i text → word ≡ string_bytes text → drop i (words texts) ≡ word ∷ drop (i + 1) (words texts)
next_at texts i word text less is value = next_of string_bytes i texts text less ∙ ap (λ x. x ∷ drop (i + 1) (words texts)) (sym (value ∙ ap string_bytes is))

pub returns-in_err-flags_of-in_default : goal.returns-in_err-flags_of-in_default
returns-in_err-flags_of-in_default c = c.from_residual.ensures ∙ bad_word (words c.args.words.now)
    (caps_to (words c.args.words.now) c.loop-word.word-index c.as_str.result.now (record { call = c.loop-word.call; caps = c.loop-word.caps; mariadb = c.loop-word.mariadb }) (asked_after (words c.args.words.now) (Some nothing_asked)) (next_at c.args.words.now c.loop-word.word-index c.as_str.result.now c.word-item.result c.loop-word-test.true c.word-item.is c.as_str.ensures.value) c.loop-word.invariant
    c.in_default.not-text c.in_default.not-text-2 c.in_default.not-text-3 c.in-Some.digits.now None c.in-Some.ensures.cases (sym (c.in_err-flags_of-in_default.was) ∙ c.flags_of.ensures))

pub returns-in_err-mariadb-in_default : goal.returns-in_err-mariadb-in_default
returns-in_err-mariadb-in_default c = c.from_residual-in_err-mariadb-in_default.ensures ∙ bad_word (words c.args.words.now)
    (mariadb_to (words c.args.words.now) c.loop-word.word-index c.as_str.result.now (record { call = c.loop-word.call; caps = c.loop-word.caps; mariadb = c.loop-word.mariadb }) (asked_after (words c.args.words.now) (Some nothing_asked)) (next_at c.args.words.now c.loop-word.word-index c.as_str.result.now c.word-item.result c.loop-word-test.true c.word-item.is c.as_str.ensures.value) c.loop-word.invariant
    c.in_default.not-text c.in_default.not-text-2 c.in_default.not-text-3 c.in-Some-strip_prefix.digits.now None c.in-Some-strip_prefix.ensures.cases (sym (c.in_err-mariadb-in_default.was) ∙ c.flags_of-in-Some-strip_prefix.ensures))

pub returns-in_err-call-in_default : goal.returns-in_err-call-in_default
returns-in_err-call-in_default c = c.from_residual-in_err-call-in_default.ensures ∙ bad_word (words c.args.words.now)
    (longest_to (words c.args.words.now) c.loop-word.word-index c.as_str.result.now (record { call = c.loop-word.call; caps = c.loop-word.caps; mariadb = c.loop-word.mariadb }) (asked_after (words c.args.words.now) (Some nothing_asked)) (next_at c.args.words.now c.loop-word.word-index c.as_str.result.now c.word-item.result c.loop-word-test.true c.word-item.is c.as_str.ensures.value) c.loop-word.invariant
    c.in_default.not-text c.in_default.not-text-2 c.in_default.not-text-3 None c.in_default-strip_prefix.ensures.cases c.in_default-strip_prefix-2.ensures.cases
    (sym (c.in_err-call-in_default.was) ∙ c.ok.ensures.value ∙ number_given c.parse.result 64 10 c.as_str.result.now c.parse.ensures.value.0))

pub loop-word-preserved : goal.loop-word-preserved
loop-word-preserved c = elim c.match-as_str.branch [
  | in-text w ↦ state_is (drop (c.loop-word.word-index + 1) (words c.args.words.now)) _ (record c.loop-word.call { layout = Json }) c.match-as_str.call c.loop-word.caps c.match-as_str.caps c.loop-word.mariadb c.match-as_str.mariadb w.call-is w.caps-is w.mariadb-is
      (goes_json (words c.args.words.now) c.loop-word.word-index c.as_str.result.now (record { call = c.loop-word.call; caps = c.loop-word.caps; mariadb = c.loop-word.mariadb }) (asked_after (words c.args.words.now) (Some nothing_asked)) (next_at c.args.words.now c.loop-word.word-index c.as_str.result.now c.word-item.result c.loop-word-test.true c.word-item.is c.as_str.ensures.value) c.loop-word.invariant w.in-text.is)
  | in-text-2 w ↦ state_is (drop (c.loop-word.word-index + 1) (words c.args.words.now)) _ (record c.loop-word.call { sums = true }) c.match-as_str.call c.loop-word.caps c.match-as_str.caps c.loop-word.mariadb c.match-as_str.mariadb w.call-is w.caps-is w.mariadb-is
      (goes_sum (words c.args.words.now) c.loop-word.word-index c.as_str.result.now (record { call = c.loop-word.call; caps = c.loop-word.caps; mariadb = c.loop-word.mariadb }) (asked_after (words c.args.words.now) (Some nothing_asked)) (next_at c.args.words.now c.loop-word.word-index c.as_str.result.now c.word-item.result c.loop-word-test.true c.word-item.is c.as_str.ensures.value) c.loop-word.invariant w.in-text-2.is)
  | in-text-3 w ↦ state_is (drop (c.loop-word.word-index + 1) (words c.args.words.now)) _ (record c.loop-word.call { is_deciphered = true }) c.match-as_str.call c.loop-word.caps c.match-as_str.caps c.loop-word.mariadb c.match-as_str.mariadb w.call-is w.caps-is w.mariadb-is
      (goes_deciphered (words c.args.words.now) c.loop-word.word-index c.as_str.result.now (record { call = c.loop-word.call; caps = c.loop-word.caps; mariadb = c.loop-word.mariadb }) (asked_after (words c.args.words.now) (Some nothing_asked)) (next_at c.args.words.now c.loop-word.word-index c.as_str.result.now c.word-item.result c.loop-word-test.true c.word-item.is c.as_str.ensures.value) c.loop-word.invariant w.in-text-3.is)
  | in_default+in-Some+in_ok-flags_of-in_default w ↦ state_is (drop (c.loop-word.word-index + 1) (words c.args.words.now)) _ c.loop-word.call c.match-as_str.call (Some w.in_ok-flags_of-in_default.field-0) c.match-as_str.caps c.loop-word.mariadb c.match-as_str.mariadb w.call-is w.caps-is w.mariadb-is
      (caps_to (words c.args.words.now) c.loop-word.word-index c.as_str.result.now (record { call = c.loop-word.call; caps = c.loop-word.caps; mariadb = c.loop-word.mariadb }) (asked_after (words c.args.words.now) (Some nothing_asked)) (next_at c.args.words.now c.loop-word.word-index c.as_str.result.now c.word-item.result c.loop-word-test.true c.word-item.is c.as_str.ensures.value) c.loop-word.invariant w.in_default.not-text w.in_default.not-text-2 w.in_default.not-text-3 w.in-Some.digits.now (Some w.in_ok-flags_of-in_default.field-0) w.in-Some.ensures.cases (sym (w.in_ok-flags_of-in_default.was) ∙ w.flags_of.ensures))
  | in_default+in_default-strip_prefix+in-Some-strip_prefix+in_ok-mariadb-in_default w ↦ state_is (drop (c.loop-word.word-index + 1) (words c.args.words.now)) _ c.loop-word.call c.match-as_str.call c.loop-word.caps c.match-as_str.caps w.in_ok-mariadb-in_default.mariadb c.match-as_str.mariadb w.call-is w.caps-is w.mariadb-is
      (mariadb_to (words c.args.words.now) c.loop-word.word-index c.as_str.result.now (record { call = c.loop-word.call; caps = c.loop-word.caps; mariadb = c.loop-word.mariadb }) (asked_after (words c.args.words.now) (Some nothing_asked)) (next_at c.args.words.now c.loop-word.word-index c.as_str.result.now c.word-item.result c.loop-word-test.true c.word-item.is c.as_str.ensures.value) c.loop-word.invariant w.in_default.not-text w.in_default.not-text-2 w.in_default.not-text-3 w.in-Some-strip_prefix.digits.now (Some w.in_ok-mariadb-in_default.mariadb) w.in-Some-strip_prefix.ensures.cases (sym (w.in_ok-mariadb-in_default.was) ∙ w.flags_of-in-Some-strip_prefix.ensures))
  | in_default+in_default-strip_prefix+in_default-strip_prefix-2+in_ok-call-in_default w ↦ state_is (drop (c.loop-word.word-index + 1) (words c.args.words.now)) _ (record c.loop-word.call { longest = w.in_ok-call-in_default.field-0 }) c.match-as_str.call c.loop-word.caps c.match-as_str.caps c.loop-word.mariadb c.match-as_str.mariadb w.call-is w.caps-is w.mariadb-is
      (longest_to (words c.args.words.now) c.loop-word.word-index c.as_str.result.now (record { call = c.loop-word.call; caps = c.loop-word.caps; mariadb = c.loop-word.mariadb }) (asked_after (words c.args.words.now) (Some nothing_asked)) (next_at c.args.words.now c.loop-word.word-index c.as_str.result.now c.word-item.result c.loop-word-test.true c.word-item.is c.as_str.ensures.value) c.loop-word.invariant w.in_default.not-text w.in_default.not-text-2 w.in_default.not-text-3 (Some w.in_ok-call-in_default.field-0) w.in_default-strip_prefix.ensures.cases w.in_default-strip_prefix-2.ensures.cases (sym (w.in_ok-call-in_default.was) ∙ w.ok.ensures.value ∙ number_given w.parse.result 64 10 c.as_str.result.now w.parse.ensures.value.0))
]

pub returns-then-words-le6 : goal.returns-then-words-le6
returns-then-words-le6 c =
    ap (λ agreed. Some (record c.loop-word.call { agreed = agreed })) c.agreed_of-call.ensures
    ∙ good (words c.args.words.now) (length c.args.words.now) (record { call = c.loop-word.call; caps = c.loop-word.caps; mariadb = c.loop-word.mariadb }) (length_map string_bytes c.args.words.now) c.if-words-le6.true
    (ended (words c.args.words.now) c.loop-word.word-index (length c.args.words.now) _ _ (length_map string_bytes c.args.words.now) c.loop-word-test.false c.loop-word.invariant)

pub returns-else-words-le6 : goal.returns-else-words-le6
returns-else-words-le6 c = too_many (words c.args.words.now) (length c.args.words.now) (length_map string_bytes c.args.words.now) (λ le. let more = c.if-words-le6.false in omega (arith, le, more))
