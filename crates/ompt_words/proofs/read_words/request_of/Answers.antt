use Rattle.std.proofs.Common.{List, map, string_bytes, subst, sym, ℕ}
use Rattle.clap.specs.Kinds.{HasKind}
use Rattle.clap.specs.Matches.{found_of}
use Rattle.clap.specs.Words.{app_of, kind_of}
use Rattle.ompt_words.specs.Answers.{IsAnswerTo, IsUsageOrMemory}
use Rattle.ompt_words.specs.declared.fault.WordsFault.TheVariants.{Shown, Usage}
use Rattle.ompt_words.proofs.Choices.{asked_wish, form_clean, read_clean, read_taken}
use Rattle.ompt_words.proofs.Faults.{asking_words, exact, only_memory, same_fault, text_or_memory, wrong_words}
use Rattle.ompt_words.proofs.Requests.{found_in, made_asked, made_clash, made_exact, made_form, made_read, made_read_form, made_shown, made_usage}
use Rattle.ompt_words.proofs.read_words.request_of.Goals as goal

pub returns-in-Err-clause-usage : goal.returns-in-Err-clause-usage
returns-in-Err-clause-usage c = λ same.
    let kind = exact (λ kinds. HasKind kinds c.in-Err.error) (app_of c.in_ok-ompt_command.field-0) (map string_bytes c.args.words.now) c.in_ok-ompt_command.ensures.app c.in-Err.ensures.kinds in
    wrong_words _ c.in-Err.error kind (subst (IsAnswerTo (kind_of c.in-Err.error)) (same_fault c.fault_of.result Usage same) c.fault_of.ensures)

pub returns-in-Err-clause-shown : goal.returns-in-Err-clause-shown
returns-in-Err-clause-shown c = λ text same.
    let kind = exact (λ kinds. HasKind kinds c.in-Err.error) (app_of c.in_ok-ompt_command.field-0) (map string_bytes c.args.words.now) c.in_ok-ompt_command.ensures.app c.in-Err.ensures.kinds in
    asking_words _ c.in-Err.error kind (subst (IsAnswerTo (kind_of c.in-Err.error)) (same_fault c.fault_of.result (Shown text) same) c.fault_of.ensures)

pub returns-in-Err-clause-exact : goal.returns-in-Err-clause-exact
returns-in-Err-clause-exact c = λ request read.
    let kind = exact (λ kinds. HasKind kinds c.in-Err.error) (app_of c.in_ok-ompt_command.field-0) (map string_bytes c.args.words.now) c.in_ok-ompt_command.ensures.app c.in-Err.ensures.kinds in
    only_memory _ c.in-Err.error c.fault_of.result (read_taken _ request read) kind c.fault_of.ensures

pub returns-in-Err-clause-form : goal.returns-in-Err-clause-form
returns-in-Err-clause-form c = λ form.
    let kind = exact (λ kinds. HasKind kinds c.in-Err.error) (app_of c.in_ok-ompt_command.field-0) (map string_bytes c.args.words.now) c.in_ok-ompt_command.ensures.app c.in-Err.ensures.kinds in
    only_memory _ c.in-Err.error c.fault_of.result (form_clean _ form) kind c.fault_of.ensures

pub returns-in-Err-clause-read_form : goal.returns-in-Err-clause-read_form
returns-in-Err-clause-read_form c = λ command is.
    let kind = exact (λ kinds. HasKind kinds c.in-Err.error) (app_of c.in_ok-ompt_command.field-0) (map string_bytes c.args.words.now) c.in_ok-ompt_command.ensures.app c.in-Err.ensures.kinds in
    only_memory _ c.in-Err.error c.fault_of.result (read_clean _ command is) kind c.fault_of.ensures

pub returns-in-Err-clause-asked : goal.returns-in-Err-clause-asked
returns-in-Err-clause-asked c = λ asked.
    let kind = exact (λ kinds. HasKind kinds c.in-Err.error) (app_of c.in_ok-ompt_command.field-0) (map string_bytes c.args.words.now) c.in_ok-ompt_command.ensures.app c.in-Err.ensures.kinds in
    text_or_memory _ c.in-Err.error c.fault_of.result (asked_wish _ asked) kind c.fault_of.ensures

pub returns-in-Err-clause-clash : goal.returns-in-Err-clause-clash
returns-in-Err-clause-clash c = λ both.
    let kind = exact (λ kinds. HasKind kinds c.in-Err.error) (app_of c.in_ok-ompt_command.field-0) (map string_bytes c.args.words.now) c.in_ok-ompt_command.ensures.app c.in-Err.ensures.kinds in
    subst IsUsageOrMemory (sym (only_memory _ c.in-Err.error c.fault_of.result both.name.taken kind c.fault_of.ensures)) tt

pub returns-clause-read : goal.returns-clause-read
returns-clause-read c =
    let words : List (List ℕ) = map string_bytes c.args.words.now in
    let has = found_in (app_of c.in_ok-ompt_command.field-0) words c.in-Ok.matches c.in-Some.name.now (found_of c.in-Some.inner.now)
    c.in_ok-ompt_command.ensures.app c.in-Ok.ensures.kinds c.in-Ok.ensures.matches c.in-Some.ensures.name c.in-Some.ensures.rows in
    let made = c.request_in.ensures words has in
    rw c.ok_or.ensures.value (made_read words c.request_in.result made)

pub returns-clause-usage : goal.returns-clause-usage
returns-clause-usage c =
    let words : List (List ℕ) = map string_bytes c.args.words.now in
    let has = found_in (app_of c.in_ok-ompt_command.field-0) words c.in-Ok.matches c.in-Some.name.now (found_of c.in-Some.inner.now)
    c.in_ok-ompt_command.ensures.app c.in-Ok.ensures.kinds c.in-Ok.ensures.matches c.in-Some.ensures.name c.in-Some.ensures.rows in
    let made = c.request_in.ensures words has in
    rw c.ok_or.ensures.value (made_usage words c.request_in.result made)

pub returns-clause-shown : goal.returns-clause-shown
returns-clause-shown c =
    let words : List (List ℕ) = map string_bytes c.args.words.now in
    rw c.ok_or.ensures.value (made_shown words c.request_in.result)

pub returns-clause-exact : goal.returns-clause-exact
returns-clause-exact c =
    let words : List (List ℕ) = map string_bytes c.args.words.now in
    let has = found_in (app_of c.in_ok-ompt_command.field-0) words c.in-Ok.matches c.in-Some.name.now (found_of c.in-Some.inner.now)
    c.in_ok-ompt_command.ensures.app c.in-Ok.ensures.kinds c.in-Ok.ensures.matches c.in-Some.ensures.name c.in-Some.ensures.rows in
    let made = c.request_in.ensures words has in
    rw c.ok_or.ensures.value (made_exact words c.request_in.result made)

pub returns-clause-form : goal.returns-clause-form
returns-clause-form c =
    let words : List (List ℕ) = map string_bytes c.args.words.now in
    let has = found_in (app_of c.in_ok-ompt_command.field-0) words c.in-Ok.matches c.in-Some.name.now (found_of c.in-Some.inner.now)
    c.in_ok-ompt_command.ensures.app c.in-Ok.ensures.kinds c.in-Ok.ensures.matches c.in-Some.ensures.name c.in-Some.ensures.rows in
    let made = c.request_in.ensures words has in
    rw c.ok_or.ensures.value (made_form words c.request_in.result made)

pub returns-clause-read_form : goal.returns-clause-read_form
returns-clause-read_form c =
    let words : List (List ℕ) = map string_bytes c.args.words.now in
    let has = found_in (app_of c.in_ok-ompt_command.field-0) words c.in-Ok.matches c.in-Some.name.now (found_of c.in-Some.inner.now)
    c.in_ok-ompt_command.ensures.app c.in-Ok.ensures.kinds c.in-Ok.ensures.matches c.in-Some.ensures.name c.in-Some.ensures.rows in
    let made = c.request_in.ensures words has in
    rw c.ok_or.ensures.value (made_read_form words c.request_in.result made)

pub returns-clause-asked : goal.returns-clause-asked
returns-clause-asked c =
    let words : List (List ℕ) = map string_bytes c.args.words.now in
    let has = found_in (app_of c.in_ok-ompt_command.field-0) words c.in-Ok.matches c.in-Some.name.now (found_of c.in-Some.inner.now)
    c.in_ok-ompt_command.ensures.app c.in-Ok.ensures.kinds c.in-Ok.ensures.matches c.in-Some.ensures.name c.in-Some.ensures.rows in
    let made = c.request_in.ensures words has in
    rw c.ok_or.ensures.value (made_asked words c.request_in.result made)

pub returns-clause-clash : goal.returns-clause-clash
returns-clause-clash c =
    let words : List (List ℕ) = map string_bytes c.args.words.now in
    let has = found_in (app_of c.in_ok-ompt_command.field-0) words c.in-Ok.matches c.in-Some.name.now (found_of c.in-Some.inner.now)
    c.in_ok-ompt_command.ensures.app c.in-Ok.ensures.kinds c.in-Ok.ensures.matches c.in-Some.ensures.name c.in-Some.ensures.rows in
    let made = c.request_in.ensures words has in
    rw c.ok_or.ensures.value (made_clash words c.request_in.result made)
