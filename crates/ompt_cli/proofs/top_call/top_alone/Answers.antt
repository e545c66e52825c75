use Rattle.std.proofs.{Common.Err, Common.ap, lemmas.Bool.not-false, lemmas.Bool.not-true}
use Rattle.ompt_words.specs.declared.settings.Request.TheVariants as request
use Rattle.ompt_words.specs.declared.fault.WordsFault.{WordsFault}
use Rattle.ompt_cli.proofs.Carrying.{read_carried, serial-reported, taken-as}
use Rattle.ompt_cli.specs.Words.{texts}
use Rattle.ompt_cli.proofs.top_call.top_alone.Goals as goal

pub returns-then-not-settings-clause-asked : goal.returns-then-not-settings-clause-asked
returns-then-not-settings-clause-asked g c =
    let of = c.in-Ok-Run.ensures in
    let taken = taken-as (texts c.args.words.now) c.in-Ok-Run.field-0 (request.Run c.in-Ok-Run.settings) c.in-Ok-Run.field-0-is of.read of.exact of.form of.read_form of.asked of.clash in
    (taken, record { some = taken.read.some_threads; few = taken.read.few_threads; steps = taken.read.some_steps; bounded = taken.read.few_steps }, not-true _ c.if-not-settings.true)

pub returns-else-not-settings-clause-carried : goal.returns-else-not-settings-clause-carried
returns-else-not-settings-clause-carried g c =
    let of = c.in-Ok-Run.ensures in
    let taken = taken-as (texts c.args.words.now) c.in-Ok-Run.field-0 (request.Run c.in-Ok-Run.settings) c.in-Ok-Run.field-0-is of.read of.exact of.form of.read_form of.asked of.clash in
    rw (c.tell.ensures.end, c.tell.ensures.shown, c.tell.ensures.read, c.tell.ensures.ran) (c.run_settings-outcome.ensures.carried (texts c.args.words.now) taken)

pub returns-else-not-settings-clause-serial : goal.returns-else-not-settings-clause-serial
returns-else-not-settings-clause-serial g c =
    let of = c.in-Ok-Run.ensures in
    let taken = taken-as (texts c.args.words.now) c.in-Ok-Run.field-0 (request.Run c.in-Ok-Run.settings) c.in-Ok-Run.field-0-is of.read of.exact of.form of.read_form of.asked of.clash in
    rw c.tell.ensures.ran
    (serial-reported (texts c.args.words.now) c.in-Ok-Run.settings taken (not-false _ c.if-not-settings.false) _ _ c.run_settings-outcome.result.ran (c.run_settings-outcome.ensures.carried (texts c.args.words.now) taken).ran)

pub returns-in-Ok-Read-clause-carried : goal.returns-in-Ok-Read-clause-carried
returns-in-Ok-Read-clause-carried g c =
    let of = c.in-Ok-Read.ensures in
    let taken = taken-as (texts c.args.words.now) c.in-Ok-Read.field-0 (request.Read c.in-Ok-Read.command) c.in-Ok-Read.field-0-is of.read of.exact of.form of.read_form of.asked of.clash in
    let input = c.read_input in
    rw (c.tell-in-Ok-Read.ensures.end, c.tell-in-Ok-Read.ensures.shown, c.tell-in-Ok-Read.ensures.read, c.tell-in-Ok-Read.ensures.ran)
    (read_carried g.S.Source.left g.S.Source.faults g.O.Sink.held g.O.Sink.faults (texts c.args.words.now) c.in-Ok-Read.command taken input.result c.args.source.now input.new.source c.args.out.now input.new.out
    input.ensures.end input.ensures.copied input.ensures.memory input.ensures.certified input.ensures.reads input.ensures.writes)

pub returns-in-Err-clause-carried : goal.returns-in-Err-clause-carried
returns-in-Err-clause-carried g c =
    let of = c.in-Err.ensures in
    rw (c.tell-in-Err.ensures.end, c.tell-in-Err.ensures.shown, c.tell-in-Err.ensures.read, c.tell-in-Err.ensures.ran)
    (c.without_request.ensures.carried (texts c.args.words.now)
    (record {
      usage = λ is. of.usage (ap (λ (found : WordsFault). Err found) is);
      shown = λ text is. of.shown text (ap (λ (found : WordsFault). Err found) is);
      exact = of.exact;
      form = of.form;
      read_form = of.read_form;
      help = of.asked;
      clash = of.clash;
    }))
