-- What each way through the top call carries out, in the words of its contract.
use Rattle.std.proofs.Common.{ℕ, ◌≡◌, ◌≢◌, ◌⊎◌, ◌∙◌, List, [], Option, Some, None, IfSome, IsNone, IsSomeAnd, true, inl, inr, refl, sym, ap, subst}
use Rattle.std.specs.Prelude.{IsSome, string_bytes}
use Rattle.std.{proofs.lemmas.List.append-nil, specs.declared.string.String.String, specs.declared.alloc.Global.Global, specs.declared.dyn_box.DynBox.DynBox}
use Rattle.omp_model.specs.declared.cause.Cause.TheVariants as causes
use Rattle.ompt_words.specs.declared.fault.WordsFault.TheVariants as fault
use Rattle.ompt_words.specs.declared.settings.Request.TheVariants as request
use Rattle.ompt_words.specs.declared.settings.ReadCommand.TheVariants as reads
use Rattle.ompt_cli.specs.declared.end.End.TheVariants as end
use Rattle.run_laws.proofs.Ended.{whole-ended}
use Rattle.ompt_cli.specs.Names.{Record, Cause, WordsFault, Generating, Request, Settings, ReadCommand, AreReadAs, AskForText, HoldBoth, IsTextOrMemory, IsUsageOrMemory, AskInForm, InForm, ReadInForm, own_settings, HistoryFile, WritesHistory}
use Rattle.ompt_cli.specs.Commands.{CountsFaults, EndsAs, EndsRun, HasWritten, IsBeforeRun, IsReading, IsShowing, IsUnread, MayRefuse, MayRun, out_of, run_text, program_in, run_of, settings_in, text_in}
use Rattle.ompt_cli.specs.Words.{AreFaulty, AreTakenAs, AskFor, AskForRun, AskToRead}
use Rattle.ompt_cli.proofs.Telling.{before-run, ends-may, few-threads, may-run, same-settings, shows-faults, some-threads}
use Rattle.ompt_cli.specs.Text.{EndsFor, IsLoaded, IsProgram, IsRefused, Spells, text_for}
use Rattle.ompt_cli.{specs.Top.CarriesOut, specs.Top.IsRunOf, specs.Top.HasTrace, specs.declared.end.End.End, specs.declared.end.Refusal.Refusal, specs.declared.job.Job.Job, specs.declared.report.Report.Report, specs.Histories.Certifies, specs.Histories.MayCertify, specs.Reports.Reports, specs.Traces.HasRead, proofs.Halting.finished, proofs.Halting.nested-run, proofs.Reading.loaded-unrefused}
use Rattle.ompt_cli.{proofs.Written.ends-found, proofs.Written.filed-text, proofs.Written.trace_unbroken, proofs.Written.trace_unrefused}

-- nothing is written where nothing changed
nothing-written : (told : End) (held : Option (List ℕ)) → told ≢ end.WriteFault → HasWritten told [] held held
nothing-written told None other = record { listed = λ whole memory. tt; part = λ is. absurd (other is); kept = λ is. tt }
nothing-written told (Some bytes) other = record { listed = λ whole memory. sym (append-nil bytes); part = λ is. absurd (other is); kept = λ is. refl }

-- nor counted
nothing-counted : (told faulty : End) (count : ℕ) → told ≢ faulty → CountsFaults told faulty count count
nothing-counted told faulty count other = record { rose = λ is. absurd (other is); steady = λ is. refl }

module _ {S O : Type 0} (left : S → Option (List ℕ)) (reads_failed : S → ℕ) (held : O → Option (List ℕ)) (writes_failed : O → ℕ) (words : List (List ℕ)) where
  -- words that are read as settings ask for no others, and for no trace to be read
  module _ (settings : Settings) (taken : AreTakenAs words (request.Run settings)) where
    asked-is : (other : Settings) → AskFor words other → settings ≡ other
    asked-is other (inl form) = same-settings (request.Run settings) settings (own_settings form.0) refl (taken.form form.0) ∙ sym form.1
    asked-is other (inr read) = same-settings (request.Run settings) settings other refl (taken.exact (request.Run other) read)

    not-read : (command : ReadCommand) → AskToRead words command → ⊥
    not-read command (inl form) = let same = taken.read_form command form in cc
    not-read command (inr read) = let same = taken.exact (request.Read command) read in cc

    text-of : (other : Settings) → AskFor words other → (P : Option (List ℕ) → Type 0) → (source : S) → P (text_for other.command (left source)) → P (text_for settings.command (left source))
    text-of other ask P source so = subst (λ (of : Settings). P (text_for of.command (left source))) (sym (asked-is other ask)) so

    -- so no text is shown and nothing is read for them
    carried : {Table : Type 0} {Behind : Table → Type 0} (told : End) (ran : Option (Report Table Behind)) (source source_now : S) (out out_now : O) → EndsRun told
        → ((why : Cause) → told ≡ end.Ended why → IsSomeAnd ran (λ report. report.cause ≡ why)) → (told ≡ end.WriteFault → IsSomeAnd ran (λ report. report.cause ≢ causes.Memory))
        → ((why : Refusal) → told ≡ end.Refused why → IfSome (text_for settings.command (left source)) (IsRefused why)) → ((why : Refusal) → IsSomeAnd (text_for settings.command (left source)) (IsRefused why) → MayRefuse why told) → (IsSomeAnd (text_for settings.command (left source)) IsProgram → MayRun told)
        → IfSome ran (IsRunOf words (left source) told) → HasWritten told (run_text ran) (held out) (held out_now) → IfSome ran (HasTrace told) → CountsFaults told end.ReadFault (reads_failed source) (reads_failed source_now) → CountsFaults told end.WriteFault (writes_failed out) (writes_failed out_now)
        → ((blocks : ℕ) → settings.command ≡ Generating blocks → source_now ≡ source) → CarriesOut left reads_failed held writes_failed words told None None ran source source_now out out_now
    carried told ran source source_now out out_now ends ended unwritten refused accepted runs is_run written traced reads writes unread = record {
      words = record {
        usage = λ is. absurd (subst EndsRun is ends);
        formed = λ ask. (ends, refl, refl);
        other = λ no_run no_read. absurd (no_run (settings, inr taken.read));
        shown_alone = tt;
        displayed = λ is. absurd (subst EndsRun is ends);
        help = λ ask. absurd (taken.no_help ask);
        clash = λ both. absurd (taken.not_both both);
        reads = λ command ask. absurd (not-read command ask);
        read_alone = tt;
        ended = ended;
        unwritten = λ is none. inr (unwritten is);
      };
      ran = is_run;
      read = tt;
      text = record {
        refused = λ none why is. (settings, taken.read, refused why is);
        accepted = λ other ask why so. accepted why (text-of other ask (λ text. IsSomeAnd text (IsRefused why)) source so);
        runs = λ other ask so. runs (text-of other ask (λ text. IsSomeAnd text IsProgram) source so);
      };
      written = λ none. written;
      recorded = traced;
      faults = shows-faults told _ _ _ _ reads writes;
      untouched = record {
        untouched = λ is. absurd (subst EndsRun is ends);
        unasked = λ no_run no_read. absurd (no_run (settings, inr taken.read));
        unread = tt;
        unread_input = λ command ask none. absurd (not-read command ask);
        generates = λ other ask blocks is. unread blocks (ap (λ (of : Settings). of.command) (asked-is other ask) ∙ is);
      };
    }

    -- a program was read and run
    pub run_carried : {Table : Type 0} {Behind : Table → Type 0} (stands_for : DynBox Table Global Behind → Record → Type 0) (told : End) (report : Report Table Behind) (job : Job) (guests : List (DynBox Table Global Behind)) (source source_now : S) (out out_now : O)
        → Reports stands_for held writes_failed job guests out out_now told report → job.settings ≡ settings → IsLoaded (text_for settings.command (left source)) job.loaded
        → ((blocks : ℕ) → settings.command ≡ Generating blocks → source_now ≡ source) → reads_failed source_now ≡ reads_failed source
        → CarriesOut left reads_failed held writes_failed words told None None (Some report) source source_now out out_now
    run_carried stands_for told report job guests source source_now out out_now r asked loaded unread steady =
        let is : settings_in report ≡ settings = r.observes.asked ∙ asked in
        let spells : Spells (text_in report) (program_in report) = subst (λ (text : List ℕ). Spells text (program_in report)) (sym r.observes.text_is) (subst (Spells job.loaded.text.items) (sym r.observes.program_is) loaded.spelled) in
        let ends : (other : End) → told ≡ other → EndsAs report.cause other = λ other same. subst (EndsAs report.cause) same r.ended in
        carried told (Some report) source source_now out out_now (may-run told (ends-may report.cause told r.ended)) (λ why same. sym (ends (end.Ended why) same).0) (ends end.WriteFault)
        (λ why same. absurd (ends (end.Refused why) same)) (λ why refused. absurd (loaded-unrefused _ job.loaded loaded why refused)) (λ program. ends-may report.cause told r.ended)
        (record {
          asked = subst (λ (one : Settings). AreReadAs words (request.Run one)) (sym is) taken.read;
          own = λ form. is ∙ same-settings (request.Run settings) settings (own_settings form) refl (taken.form form);
          text =
              subst (λ (text : List ℕ). IfSome (text_for report.command (left source)) (λ one. one ≡ text)) (sym r.observes.text_is)
              (subst (λ (one : Settings). IfSome (text_for one.command (left source)) (λ text. text ≡ job.loaded.text.items)) (sym is) loaded.same);
          spelled = spells;
          mask = λ other. (r.stays other).mask_is;
          always = r.observes.always;
          legal = r.observes.to.legal;
          cause = r.observes.to.ends;
          finished = λ found. finished (run_of report) report.history report.cause r.observes.to.legal (r.observes.to.ends found);
          outside = r.observes.outside;
          serial = r.observes.to.in_order;
          whole = λ serial other found. r.observes.to.whole serial found (r.stays other).silent;
          silent_run = r.observes.to.whole;
          to_the_end = λ serial found. whole-ended (run_of report) report.history (r.observes.to.in_order serial) (subst IsSome (sym (r.observes.to.ends found)) refl) (r.observes.outside found);
          ended = r.ended;
          memory = r.memory;
          begun = r.observes.to.begun;
        })
        r.written
        (record {
          traced = r.traced;
          nested = λ other found.
              nested-run (run_of report) report.history report.cause (some-threads job report r.observes) (few-threads job report r.observes) (r.stays other).mask_is (text_in report) spells r.observes.to.legal (r.observes.to.ends found) (r.observes.outside found);
          history_file = λ whole memory filed.
              record { is_file = (r.certified whole memory filed).is_file; bytes_are = sym (filed-text report filed (ends-found report.cause told r.ended memory)) };
          certificate = λ whole memory filed. (r.certified whole memory filed).certificate;
        })
        (record { rose = λ same. absurd (ends end.ReadFault same); steady = λ other. steady }) r.faults unread

    -- no program was read or run
    pub end_carried : {Table : Type 0} {Behind : Table → Type 0} (told : End) (source source_now : S) (out : O) → EndsFor (text_for settings.command (left source)) told
        → CountsFaults told end.ReadFault (reads_failed source) (reads_failed source_now) → ((blocks : ℕ) → settings.command ≡ Generating blocks → source_now ≡ source)
        → CarriesOut {Table = Table} {Behind = Behind} left reads_failed held writes_failed words told None None None source source_now out out
    end_carried told source source_now out ended faults unread =
        let ends : (other : End) → told ≡ other → IsBeforeRun other = λ other same. subst IsBeforeRun same ended.before in
        carried told None source source_now out out (before-run told ended.before) (λ why. ends (end.Ended why)) (ends end.WriteFault) ended.refused ended.accepted ended.runs
        tt (nothing-written told (held out) (ends end.WriteFault)) tt faults (nothing-counted told end.WriteFault (writes_failed out) (ends end.WriteFault)) unread

  -- a trace was read
  module _ (command : ReadCommand) (taken : AreTakenAs words (request.Read command)) where
    not-run : AskForRun words → ⊥
    not-run (settings, inl form) = let same = taken.form form.0 in cc
    not-run (settings, inr other) = let same = taken.exact (request.Run settings) other in cc

    command-is : (other : ReadCommand) → AskToRead words other → command ≡ other
    command-is other (inl form) = let same = taken.read_form other form in cc
    command-is other (inr read) = let same = taken.exact (request.Read other) read in cc

    pub read_carried : {Table : Type 0} {Behind : Table → Type 0} (told : End) (source source_now : S) (out out_now : O) → IsReading told → HasRead command told (left source) (left source_now) (held out) (held out_now) → (command ≡ reads.Migrate → told ≢ end.Memory)
        → (command ≡ reads.Rerun → (file : HistoryFile) → IsSomeAnd (left source) (WritesHistory file) → Certifies file → MayCertify told)
        → CountsFaults told end.ReadFault (reads_failed source) (reads_failed source_now) → CountsFaults told end.WriteFault (writes_failed out) (writes_failed out_now)
        → CarriesOut {Table = Table} {Behind = Behind} left reads_failed held writes_failed words told None (Some command) None source source_now out out_now
    read_carried told source source_now out out_now reading copied memory certified read_faults write_faults =
        let ends : (other : End) → told ≡ other → IsReading other = λ other same. subst IsReading same reading in record {
          words = record {
            usage = λ is. absurd (ends end.Usage is);
            formed = λ ask. absurd (not-run ask);
            other = λ no_run no_read. absurd (no_read command (inr taken.read));
            shown_alone = tt;
            displayed = λ is. absurd (ends end.Shown is);
            help = λ ask. absurd (taken.no_help ask);
            clash = λ both. absurd (taken.not_both both);
            reads = λ other ask. inl (ap (λ (one : ReadCommand). Some one) (command-is other ask));
            read_alone = (taken.read, reading, refl, refl);
            ended = λ why is. absurd (ends (end.Ended why) is);
            unwritten = λ is none. absurd cc;
          };
          ran = tt;
          read = record {
            copied = copied;
            unrefused = λ trace is refusal same. trace_unrefused command _ _ _ _ told trace refusal is copied same;
            unbroken = λ trace is nested breach same. trace_unbroken command _ _ _ _ told trace breach is nested copied same;
            migrated = memory;
            certified = certified;
          };
          text = record {
            refused = λ none. absurd cc;
            accepted = λ settings ask. absurd (not-run (settings, ask));
            runs = λ settings ask. absurd (not-run (settings, ask));
          };
          written = λ none. absurd cc;
          recorded = tt;
          faults = shows-faults told _ _ _ _ read_faults write_faults;
          untouched = record {
            untouched = λ is. absurd (ends end.Usage is);
            unasked = λ no_run no_read. absurd (no_read command (inr taken.read));
            unread = tt;
            unread_input = λ other ask none. absurd cc;
            generates = λ settings ask. absurd (not-run (settings, ask));
          };
        }

  -- words that were read as no request, and ask for one all the same: there was no memory for them
  module _ (found : WordsFault) (faulty : AreFaulty words found) where
    no-memory : AskForRun words → found ≡ fault.Memory
    no-memory (settings, inl form) = faulty.form form.0
    no-memory (settings, inr asked) = faulty.exact (request.Run settings) asked

    no-memory_read : (command : ReadCommand) → AskToRead words command → found ≡ fault.Memory
    no-memory_read command (inl form) = faulty.read_form command form
    no-memory_read command (inr asked) = faulty.exact (request.Read command) asked

    -- how a command ends that runs and reads nothing for them, and what it shows
    record Answers (told : End) (shown : Option (String Global)) : Type 0 where
      unread : IsUnread told
      used : told ≡ end.Usage → found ≡ fault.Usage
      unshown : (told ≡ end.Usage) ⊎ (found ≡ fault.Memory) → IsNone shown
      memory : found ≡ fault.Memory → told ≡ end.Memory
      shows : IfSome shown (λ text. (found ≡ fault.Shown text) × IsShowing told)
      displayed : (told ≡ end.Shown) ⊎ (told ≡ end.WriteFault) → IsSome shown
      help : IsTextOrMemory found → IsShowing told
      clash : IsUsageOrMemory found → (told ≡ end.Usage) ⊎ (told ≡ end.Memory)

    unread_carried : {Table : Type 0} {Behind : Table → Type 0} (told : End) (shown : Option (String Global)) (source : S) (out out_now : O) → Answers told shown → HasWritten told (out_of {Table = Table} {Behind = Behind} shown None) (held out) (held out_now)
        → CountsFaults told end.WriteFault (writes_failed out) (writes_failed out_now) → (IsNone shown → out_now ≡ out)
        → CarriesOut {Table = Table} {Behind = Behind} left reads_failed held writes_failed words told shown None None source source out out_now
    unread_carried {Table} {Behind} told shown source out out_now answers written faults kept =
        let ends : (other : End) → told ≡ other → IsUnread other = λ other same. subst IsUnread same answers.unread in
        let memory : AskForRun words → told ≡ end.Memory = λ ask. answers.memory (no-memory ask) in record {
          words = record {
            usage = λ is. (faulty.usage (answers.used is), refl, answers.unshown (inl is), refl);
            formed = λ ask. (subst EndsRun (sym (memory ask)) tt, answers.unshown (inr (no-memory ask)), refl);
            other = λ no_run no_read. (answers.unread, refl, refl);
            shown_alone = shows-text None None refl refl shown answers.shows;
            displayed = λ is. answers.displayed (inl is);
            help = λ ask. answers.help (faulty.help ask);
            clash = λ both. answers.clash (faulty.clash both);
            reads = λ command ask. let none = no-memory_read command ask in inr (answers.memory none, refl, answers.unshown (inr none), refl);
            read_alone = tt;
            ended = λ why is. absurd (ends (end.Ended why) is);
            unwritten = λ is none. inl (answers.displayed (inr is));
          };
          ran = tt;
          read = tt;
          text = record {
            refused = λ none why is. absurd (ends (end.Refused why) is);
            accepted = λ settings ask why so. subst (MayRefuse why) (sym (memory (settings, ask))) tt;
            runs = λ settings ask so. subst MayRun (sym (memory (settings, ask))) tt;
          };
          written = λ none. written;
          recorded = tt;
          faults = shows-faults told _ _ _ _ (nothing-counted told end.ReadFault (reads_failed source) (ends end.ReadFault)) faults;
          untouched = record {
            untouched = λ is. (refl, kept (answers.unshown (inl is)));
            unasked = λ no_run no_read. refl;
            unread = elim shown as (λ (of : Option (String Global)). IfSome of (λ text. source ≡ source)) [ None ↦ tt | Some text ↦ refl ];
            unread_input = λ command ask none. (refl, kept (answers.unshown (inr (no-memory_read command ask))));
            generates = λ settings ask blocks same. refl;
          };
        }
      where
        shows-text : (ran : Option (Report Table Behind)) (read : Option ReadCommand) → IsNone ran → IsNone read → (shown : Option (String Global)) → IfSome shown (λ text. (found ≡ fault.Shown text) × IsShowing told)
            → IfSome shown (λ text. AskForText words × IsShowing told × IsNone ran × IsNone read)
        shows-text ran read no_run no_read None shows = tt
        shows-text ran read no_run no_read (Some text) shows = (faulty.shown text shows.0, shows.1, no_run, no_read)

    -- no text is shown: the words are refused, or there was no memory for them
    pub refused_carried : {Table : Type 0} {Behind : Table → Type 0} (told : End) (source : S) (out : O) → ((found ≡ fault.Usage) × (told ≡ end.Usage)) ⊎ ((found ≡ fault.Memory) × (told ≡ end.Memory))
        → CarriesOut {Table = Table} {Behind = Behind} left reads_failed held writes_failed words told None None None source source out out
    refused_carried told source out which =
        let unlike : (other : End) → (other ≡ end.Usage → ⊥) → (other ≡ end.Memory → ⊥) → told ≢ other =
        λ other first second same. elim which [ inl this ↦ first (sym same ∙ this.1) | inr this ↦ second (sym same ∙ this.1) ] in
        let failed : told ≢ end.WriteFault = unlike end.WriteFault (λ same. cc) (λ same. cc) in
        unread_carried told None source out out
        (record {
          unread = elim which [ inl this ↦ subst IsUnread (sym this.1) tt | inr this ↦ subst IsUnread (sym this.1) tt ];
          used = λ same. elim which [ inl this ↦ this.0 | inr this ↦ let wrong : end.Memory ≡ end.Usage = sym this.1 ∙ same in cc ];
          unshown = λ why. refl;
          memory = λ same. elim which [ inl this ↦ let wrong : fault.Usage ≡ fault.Memory = sym this.0 ∙ same in cc | inr this ↦ this.1 ];
          shows = tt;
          displayed = λ why. absurd (elim why [ inl same ↦ unlike end.Shown (λ same. cc) (λ same. cc) same | inr same ↦ failed same ]);
          help = λ ask. elim which [ inl this ↦ absurd (subst IsTextOrMemory this.0 ask) | inr this ↦ subst IsShowing (sym this.1) tt ];
          clash = λ both. elim which [ inl this ↦ inl this.1 | inr this ↦ inr this.1 ];
        })
        (nothing-written told (held out) failed) (nothing-counted told end.WriteFault (writes_failed out) failed) (λ none. refl)

    pub shown_carried : {Table : Type 0} {Behind : Table → Type 0} (text : String Global) (told : End) (source : S) (out out_now : O) → found ≡ fault.Shown text → (told ≡ end.Shown) ⊎ (told ≡ end.WriteFault) → HasWritten told (string_bytes text) (held out) (held out_now)
        → CountsFaults told end.WriteFault (writes_failed out) (writes_failed out_now) → CarriesOut {Table = Table} {Behind = Behind} left reads_failed held writes_failed words told (Some text) None None source source out out_now
    shown_carried text told source out out_now is ends written faults =
        let shows : IsShowing told = elim ends [ inl same ↦ subst IsShowing (sym same) tt | inr same ↦ subst IsShowing (sym same) tt ] in
        unread_carried told (Some text) source out out_now
        (record {
          unread = elim ends [ inl same ↦ subst IsUnread (sym same) tt | inr same ↦ subst IsUnread (sym same) tt ];
          used = λ same. absurd (subst IsShowing same shows);
          unshown = λ why. absurd (elim why [ inl same ↦ subst IsShowing same shows | inr same ↦ cc ]);
          memory = λ same. absurd cc;
          shows = (is, shows);
          displayed = λ why. cc;
          help = λ ask. shows;
          clash = λ both. absurd (subst IsUsageOrMemory is both);
        })
        written faults (λ none. absurd cc)

-- what was read of the words is what is asked of them
pub taken-as : (words : List (List ℕ)) (found given : Request) → found ≡ given → AreReadAs words found → ((other : Request) → AreReadAs words other → found ≡ other) → ((form : InForm words) → found ≡ request.Run (own_settings form))
    → ((command : ReadCommand) → ReadInForm words command → found ≡ request.Read command) → (AskInForm words → ⊥) → (HoldBoth words → ⊥) → AreTakenAs words given
taken-as words found given is read exact form read_form no_help not_both = subst (AreTakenAs words) is (record { read = read; exact = exact; form = form; read_form = read_form; no_help = no_help; not_both = not_both })

-- what is reported of a run is serial where the words ask for a serial one
pub serial-reported : {Table : Type 0} {Behind : Table → Type 0} (words : List (List ℕ)) (settings : Settings) → AreTakenAs words (request.Run settings) → settings.serial ≡ true → (left : Option (List ℕ)) (told : End) (ran : Option (Report Table Behind))
    → IfSome ran (IsRunOf words left told) → IfSome ran (λ report. report.serial ≡ true)
serial-reported words settings taken serial left told None is = tt
serial-reported words settings taken serial left told (Some report) is =
    ap (λ (one : Settings). one.serial) (sym (same-settings (request.Run settings) settings (settings_in report) refl (taken.exact (request.Run (settings_in report)) is.asked))) ∙ serial
