-- The matches of a command have rows of its rules alone.
use Rattle.std.proofs.Common.{refl, true, false, Bool, List, Option, Some, [], ◌∷◌, ◌++◌, ◌≡◌, ◌∙◌, ℕ, zero, suc}
use Rattle.std.specs.Prelude.{None, ◌+◌, drop, encode_utf8, find, fold, length, min, slice_get, if◌then◌else◌, ⊤, ◌&&◌}
use Rattle.std.specs.Str.{bytes_eq, chars}
use Rattle.std.proofs.lemmas.List.Folds.{list_any-append}
use Rattle.clap.specs.Lexer.{long_of, short_of}
use Rattle.clap.specs.Walk.{Held, Names, Outcome, Row, Rule, Step, Text, Waiting, Walk, action_of, after_flag, after_step, arg_by_id, arg_by_index, arg_by_long, arg_by_short, at_row, attached_value, bundle_met, bundle_step, count_of, counted, default_rows, done, flag_met, has_row, is_pending, long_met, long_or_other, more_values, new_count, next, nothing_held, one_of, option, option_met, option_word, plain, plain_word, reading_by, refused, rows_after, settled, settled_rows, short_met, short_or_plain, subcommand, subcommand_met, subcommand_or_other, takes_several, takes_values, to_positional, trailing, used, used_as, used_by_id, value, values_or_missing, waits, walk, walk_from, walked, walked_from, with_count, with_default, with_values, without, word_met}
use Rattle.clap.specs.declared.builder.action.ArgAction.{ArgAction}
use Rattle.clap.specs.declared.builder.action.ArgAction.TheVariants.{Append, Count, Set, SetFalse, SetTrue}
use Rattle.clap.specs.declared.builder.value_parser.Reading.{Reading}
use Rattle.clap.specs.declared.parser.matches.ValueSource.{ValueSource}
use Rattle.clap.specs.declared.parser.matches.ValueSource.TheVariants.{CommandLine, DefaultValue}

-- no rule has this id
abbrev pub IsForeign : Text → List Rule → Type 0
IsForeign id [] = ⊤
IsForeign id (rule ∷ rules) = (bytes_eq rule.id id ≡ false) × IsForeign id rules

-- no row has this id
abbrev Lacks : Text → List Row → Type 0
Lacks id rows = has_row id rows ≡ false

-- ---- rows: what follows keeps rows without the id

-- one row more
lacks_more : (id : Text) (row : Row) (rows : List Row) → bytes_eq row.id id ≡ false → Lacks id rows → Lacks id (row ∷ rows)
lacks_more id row rows differs lacks = rw (differs, lacks) refl

-- rows and further rows
lacks_both : (id : Text) (a b : List Row) → Lacks id a → Lacks id b → Lacks id (a ++ b)
lacks_both id a b one other = list_any-append (λ (row : Row). bytes_eq row.id id) a b ∙ rw (one, other) refl

-- rows of which one is changed, or comes last
at_row_lacks : (id other : Text) (change : Row → List Row) (missing rows : List Row) → ((row : Row) → bytes_eq row.id id ≡ false → Lacks id (change row)) → Lacks id missing
    → Lacks id rows → Lacks id (at_row other change missing rows)
at_row_lacks id other change missing [] changed lacks none = lacks
at_row_lacks id other change missing (row ∷ rows) changed lacks none =
    by (bytes_eq row.id id) refl (bytes_eq row.id other) refl (λ rest. at_row_lacks id other change missing rows changed lacks rest)
  where
    by : (own : Bool) → bytes_eq row.id id ≡ own → (same : Bool) → bytes_eq row.id other ≡ same → (Lacks id rows → Lacks id (at_row other change missing rows))
        → Lacks id (at_row other change missing (row ∷ rows))
    by true is same found later = let wrong : true ≡ false = rw is at none in cc
    by false is true found later = let rest : Lacks id rows = rw is at none in rw found (lacks_both id (change row) rows (changed row is) rest)
    by false is false found later =
        let rest : Lacks id rows = rw is at none in rw found (lacks_more id row (at_row other change missing rows) is (later rest))

module _ (id : Text) where
  -- rows after values of another id
  with_values_lack : (other : Text) (how : Reading) (source : ValueSource) (values : List Text) (rows : List Row) → bytes_eq other id ≡ false → Lacks id rows
      → Lacks id (with_values other how source values rows)
  with_values_lack other how source values rows differs none = at_row_lacks id other (more_values source values) _ rows (λ row own. rw own refl) (rw differs refl) none

  -- after a count
  with_count_lack : (other : Text) (how : Reading) (source : ValueSource) (n : ℕ) (rows : List Row) → bytes_eq other id ≡ false → Lacks id rows
      → Lacks id (with_count other how source n rows)
  with_count_lack other how source n rows differs none = at_row_lacks id other (new_count source n) _ rows (λ row own. rw own refl) (rw differs refl) none

  -- after a row is left out
  without_lack : (other : Text) (rows : List Row) → Lacks id rows → Lacks id (without other rows)
  without_lack other rows none = at_row_lacks id other (λ row. []) [] rows (λ row own. refl) refl none

  -- after a count or values
  counted_lack : (other : Text) (how : Reading) (values : List Text) (rows : List Row) → bytes_eq other id ≡ false → Lacks id rows → Lacks id (counted other how values rows)
  counted_lack other how [] rows differs none = with_count_lack other how CommandLine (min (count_of other rows + 1) 255) (without other rows) differs (without_lack other rows none)
  counted_lack other how (v ∷ vs) rows differs none = with_values_lack other how CommandLine (v ∷ vs) (without other rows) differs (without_lack other rows none)

  -- after a use by any action
  used_as_lack : (action : ArgAction) (other : Text) (how : Reading) (values : List Text) (rows : List Row) → bytes_eq other id ≡ false → Lacks id rows
      → Lacks id (used_as action other how values rows)
  used_as_lack Set other how values rows differs none = with_values_lack other how CommandLine values (without other rows) differs (without_lack other rows none)
  used_as_lack SetTrue other how values rows differs none = with_values_lack other how CommandLine values (without other rows) differs (without_lack other rows none)
  used_as_lack SetFalse other how values rows differs none = with_values_lack other how CommandLine values (without other rows) differs (without_lack other rows none)
  used_as_lack Append other how values rows differs none = with_values_lack other how CommandLine values rows differs none
  used_as_lack Count other how values rows differs none = counted_lack other how values rows differs none
  used_as_lack _ other how values rows differs none = none

  -- after a use of a rule
  used_lack : (rule : Rule) (values : List Text) (rows : List Row) → bytes_eq rule.id id ≡ false → Lacks id rows → Lacks id (used rule values rows)
  used_lack rule values rows differs none = used_as_lack (action_of rule) rule.id (reading_by rule) (values_or_missing rule values) rows differs none

  -- a rule that was found has another id
  abbrev IsOther : Option Rule → Type 0
  IsOther None = ⊤
  IsOther (Some rule) = bytes_eq rule.id id ≡ false

  -- as each one among rules of which none has this id
  found_other : (test : Rule → Bool) (rules : List Rule) → IsForeign id rules → IsOther (find test rules)
  found_other test [] foreign = tt
  found_other test (rule ∷ rules) foreign = by (test rule) refl (found_other test rules foreign.1)
    where
      by : (fits : Bool) → test rule ≡ fits → IsOther (find test rules) → IsOther (find test (rule ∷ rules))
      by true is later = rw is foreign.0
      by false is later = rw is later

  -- after a use of what was found
  used_by_id_lack : (found : Option Rule) (values : List Text) (rows : List Row) → IsOther found → Lacks id rows → Lacks id (used_by_id found values rows)
  used_by_id_lack None values rows other none = none
  used_by_id_lack (Some rule) values rows other none = used_lack rule values rows other none

  -- by either of two ways
  either_lacks : {X : Type 0} (test : Bool) (rows : X → List Row) (a b : X) → Lacks id (rows a) → Lacks id (rows b) → Lacks id (rows (if test then a else b))
  either_lacks true rows a b one other = one
  either_lacks false rows a b one other = other

  -- ---- the walk keeps them so, too

  module _ (rules : List Rule) (foreign : IsForeign id rules) where
    -- what is held is used
    settled_lack : (pending : Option (Text × List Text)) (rows : List Row) → Lacks id rows → Lacks id (settled_rows rules pending rows)
    settled_lack None rows none = none
    settled_lack (Some p) rows none = used_by_id_lack (arg_by_id rules p.0) p.1 rows (found_other (λ rule. bytes_eq rule.id p.0) rules foreign) none

    -- an option is met
    option_lacks : (rule : Rule) (given : Option Text) (held : Held) → bytes_eq rule.id id ≡ false → Lacks id held.rows → Lacks id (option_met rules rule given held).0.rows
    option_lacks rule (Some v) held other none = used_lack rule (v ∷ []) (settled rules held).rows other (settled_lack held.pending held.rows none)
    option_lacks rule None held other none = settled_lack held.pending held.rows none

    -- a flag
    flag_lacks : (rule : Rule) (given : Option Text) (held : Held) → bytes_eq rule.id id ≡ false → Lacks id held.rows → Lacks id (flag_met rules rule given held).0.rows
    flag_lacks rule (Some v) held other none = none
    flag_lacks rule None held other none = used_lack rule [] (settled rules held).rows other (settled_lack held.pending held.rows none)

    -- a long word
    long_lacks : (found : Option Rule) (given : Option Text) (held : Held) → IsOther found → Lacks id held.rows → Lacks id (long_met rules found given held).0.rows
    long_lacks None given held other none = none
    long_lacks (Some rule) given held other none =
        either_lacks (takes_values rule) (λ (met : Held × Outcome). met.0.rows) (option_met rules rule given held) (flag_met rules rule given held)
        (option_lacks rule given held other none) (flag_lacks rule given held other none)

    -- a short one
    short_lacks : (found : Option Rule) (rest : Text) (held : Held) (later : Held → Held × Outcome) → ((more : Held) → Lacks id more.rows → Lacks id (later more).0.rows)
        → IsOther found → Lacks id held.rows → Lacks id (short_met rules found rest held later).0.rows
    short_lacks None rest held later keeps other none = none
    short_lacks (Some rule) rest held later keeps other none =
        either_lacks (takes_values rule) (λ (met : Held × Outcome). met.0.rows) (option_met rules rule (attached_value rest) held) _
        (option_lacks rule (attached_value rest) held other none) (keeps _ (used_lack rule [] (settled rules held).rows other (settled_lack held.pending held.rows none)))

    -- one letter of a bundle
    step_lacks : (first : Option ℕ) (flags : Text) (skip : ℕ) (so_far : Outcome) (held : Held) (later : Text → ℕ → Outcome → Held → Held × Outcome)
        → ((rest : Text) (left : ℕ) (outcome : Outcome) (more : Held) → Lacks id more.rows → Lacks id (later rest left outcome more).0.rows)
        → Lacks id held.rows → Lacks id (bundle_step rules first flags skip so_far held later).0.rows
    step_lacks None flags skip so_far held later keeps none = none
    step_lacks (Some x) flags zero so_far held later keeps none =
        short_lacks (arg_by_short rules x) (drop (length (encode_utf8 x)) flags) held (later (drop (length (encode_utf8 x)) flags) 0 done)
        (λ more. keeps (drop (length (encode_utf8 x)) flags) 0 done more) (found_other _ rules foreign) none
    step_lacks (Some x) flags (suc skip) so_far held later keeps none = keeps (drop (length (encode_utf8 x)) flags) skip so_far held none

    -- a whole bundle
    bundle_lacks : (k : ℕ) (flags : Text) (skip : ℕ) (so_far : Outcome) (held : Held) → Lacks id held.rows → Lacks id (bundle_met rules k flags skip so_far held).0.rows
    unfolding bundle_met
    bundle_lacks zero flags skip so_far held none = none
    bundle_lacks (suc k) flags skip so_far held none =
        step_lacks (slice_get (chars flags) 0) flags skip so_far held (bundle_met rules k) (λ rest left outcome more. bundle_lacks k rest left outcome more) none

    -- a word that is the value of an option
    word_lacks : (found : Option Rule) (other word : Text) (held : Held) → Lacks id held.rows → Lacks id (option_word found other word held).0.rows
    word_lacks None other word held none = none
    word_lacks (Some rule) other word held none = none

    -- a word that is no flag
    plain_lacks : (waiting : Waiting) (word : Text) (held : Held) → Lacks id held.rows → Lacks id (plain_word rules waiting word held).0.rows
    plain_lacks (option other) word held none = word_lacks (arg_by_id rules other) other word held none
    plain_lacks _ word held none = none

    -- a word, by what it came to
    after_flag_lacks : (waiting : Waiting) (word : Text) (held : Held) (outcome : Outcome) → Lacks id held.rows → Lacks id (after_flag rules waiting word held outcome).0.rows
    after_flag_lacks waiting word held done none = none
    after_flag_lacks waiting word held (waits other) none = none
    after_flag_lacks waiting word held plain none = plain_lacks waiting word held none
    after_flag_lacks waiting word held refused none = plain_lacks waiting word held none

    -- a word that may be a bundle
    short_word_lacks : (waiting : Waiting) (word : Text) (flags : Option Text) (held : Held) → Lacks id held.rows → Lacks id (short_or_plain rules waiting word flags held).0.rows
    short_word_lacks waiting word (Some flags) held none = after_flag_lacks waiting word _ _ (bundle_lacks (length flags) flags held.skip plain (record held { skip = 0 }) none)
    short_word_lacks waiting word None held none = plain_lacks waiting word held none

    -- a word that may be a long one
    long_word_lacks : (waiting : Waiting) (word : Text) (long : Option (Text × Option Text)) (held : Held) → Lacks id held.rows
        → Lacks id (long_or_other rules waiting word long held).0.rows
    long_word_lacks waiting word (Some p) held none = after_flag_lacks waiting word _ _ (long_lacks (arg_by_long rules p.0) p.1 held (found_other _ rules foreign) none)
    long_word_lacks waiting word None held none = short_word_lacks waiting word (short_of word) held none

    -- a word that may be the name of a command
    other_lacks : (name : Option Text) (waiting : Waiting) (position : ℕ) (word : Text) (held : Held) → Lacks id held.rows
        → Lacks id (subcommand_or_other rules name waiting position word held).0.rows
    other_lacks (Some name) waiting position word held none = none
    other_lacks None waiting position word held none = either_lacks (bytes_eq word (45 ∷ 45 ∷ [])) (λ (met : Held × Step). met.0.rows) (held, trailing position) _
        none (long_word_lacks waiting word (long_of word) held none)

    -- any word
    met_lacks : (names : Names) (is_trailing : Bool) (waiting : Waiting) (position : ℕ) (word : Text) (held : Held) → Lacks id held.rows
        → Lacks id (word_met rules names is_trailing waiting position word held).0.rows
    met_lacks names true waiting position word held none = none
    met_lacks names false waiting position word held none = other_lacks (subcommand_met names waiting word) waiting position word held none

    -- a word that goes to a positional
    placed_lacks : (found : Option Rule) (word : Text) (w : Walk) (held : Held) → Lacks id held.rows → Lacks id (to_positional rules found word w held).held.rows
    placed_lacks None word w held none = none
    placed_lacks (Some rule) word w held none = either_lacks (is_pending rule held.pending && takes_several rule) (λ (now : Held). now.rows) held (settled rules held)
        none (settled_lack held.pending held.rows none)

    -- any step
    after_step_lacks : (word : Text) (w : Walk) (held : Held) (step : Step) → Lacks id held.rows → Lacks id (after_step rules word w held step).held.rows
    after_step_lacks word w held (next waiting) none = none
    after_step_lacks word w held (trailing position) none = none
    after_step_lacks word w held (subcommand name) none = none
    after_step_lacks word w held value none = placed_lacks (arg_by_index rules w.position) word w held none

    -- the walk over one word
    walked_lacks : (names : Names) (stopped : Option (Text × List Text)) (w : Walk) (word : Text) → Lacks id w.held.rows → Lacks id (walked_from rules names stopped w word).held.rows
    walked_lacks names (Some p) w word none = none
    walked_lacks names None w word none = after_step_lacks word w _ _ (met_lacks names w.is_trailing w.waiting w.position word w.held none)

    -- and over all
    walk_lacks : (names : Names) (w : Walk) (words : List Text) → Lacks id w.held.rows → Lacks id (fold (walked rules names) w words).held.rows
    unfolding walked
    walk_lacks names w [] none = none
    walk_lacks names w (word ∷ words) none = walk_lacks names (walked rules names w word) words (walked_lacks names w.stopped w word none)

  -- ---- defaults

  -- the default of a rule
  default_lacks : (other : Text) (how : Reading) (defaults : List Text) (rows : List Row) → bytes_eq other id ≡ false → Lacks id rows → Lacks id (default_rows other how defaults rows)
  default_lacks other how [] rows differs none = none
  default_lacks other how (v ∷ vs) rows differs none = with_values_lack other how DefaultValue (v ∷ vs) rows differs none

  -- and those of all
  defaults_lack : (rules : List Rule) (rows : List Row) → IsForeign id rules → Lacks id rows → Lacks id (fold with_default rows rules)
  defaults_lack [] rows foreign none = none
  defaults_lack (rule ∷ rules) rows foreign none = defaults_lack rules (with_default rows rule) foreign.1
      (either_lacks (has_row rule.id rows) (λ (all : List Row). all) rows _ none (default_lacks rule.id (reading_by rule) rule.defaults rows foreign.0 none))

-- rows without the id have no text of it
no_row_text : (id : Text) (rows : List Row) → Lacks id rows → one_of id rows ≡ None
no_row_text id [] none = refl
no_row_text id (row ∷ rows) none = by (bytes_eq row.id id) refl (λ rest. no_row_text id rows rest)
  where
    by : (same : Bool) → bytes_eq row.id id ≡ same → (Lacks id rows → one_of id rows ≡ None) → one_of id (row ∷ rows) ≡ None
    by true is later = let wrong : true ≡ false = rw is at none in cc
    by false is later = rw is (later (rw is at none))

-- so the matches have no text of it
pub no_text : (id : Text) (rules : List Rule) → IsForeign id rules → (words : List Text) → one_of id (rows_after rules [] words) ≡ None
no_text id rules foreign words =
    let at_end : Walk = walk rules [] nothing_held words in
    no_row_text id (rows_after rules [] words)
    (defaults_lack id rules (settled rules at_end.held).rows foreign
    (settled_lack id rules foreign at_end.held.pending at_end.held.rows (walk_lacks id rules foreign [] (walk_from nothing_held) words refl)))
