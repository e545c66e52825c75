use Rattle.std.proofs.Common.{codes, refl}
use Rattle.clap.specs.Matches.{found_of}
use Rattle.clap.specs.Walk.{rows_of}
use Rattle.ompt_words.specs.declared.settings.Command.TheVariants.{List as Listing, Profile, Record, Run, Timeline}
use Rattle.ompt_words.proofs.Faults.{both_held, command_read, generator_read, settings_read}
use Rattle.ompt_words.proofs.Levels.{listing_left}
use Rattle.ompt_words.proofs.read_words.request_in.Goals as goal

pub returns-in-show : goal.returns-in-show
returns-in-show c = λ words has. command_read words c.args.name.now (rows_of (found_of c.args.matches.now)) (codes "show") has.taken has.command_is c.in-show.is

pub returns-in-migrate : goal.returns-in-migrate
returns-in-migrate c = λ words has. command_read words c.args.name.now (rows_of (found_of c.args.matches.now)) (codes "migrate") has.taken has.command_is c.in-migrate.is

pub returns-in-check : goal.returns-in-check
returns-in-check c = λ words has. command_read words c.args.name.now (rows_of (found_of c.args.matches.now)) (codes "check") has.taken has.command_is c.in-check.is

pub returns-in-rerun : goal.returns-in-rerun
returns-in-rerun c = λ words has. command_read words c.args.name.now (rows_of (found_of c.args.matches.now)) (codes "rerun") has.taken has.command_is c.in-rerun.is

pub returns-in-tasks : goal.returns-in-tasks
returns-in-tasks c = λ words has. command_read words c.args.name.now (rows_of (found_of c.args.matches.now)) (codes "tasks") has.taken has.command_is c.in-tasks.is

pub returns-in-gen : goal.returns-in-gen
returns-in-gen c = λ words has.
    generator_read words c.args.name.now (found_of c.args.matches.now) c.generator_settings.result has.taken has.command_is c.in-gen.is c.generator_settings.ensures.command
    c.generator_settings.ensures.threads c.generator_settings.ensures.steps c.generator_settings.ensures.serial
    c.generator_settings.ensures.some c.generator_settings.ensures.few

pub returns-in-Some : goal.returns-in-Some
returns-in-Some c = λ words has.
    settings_read words c.args.name.now (found_of c.args.matches.now) c.settings_in.result (Run c.in-Some.output) has.taken has.command_is c.in-run.is c.settings_in.ensures.command c.in-Some.ensures.output
    c.settings_in.ensures.threads c.settings_in.ensures.steps c.settings_in.ensures.serial c.settings_in.ensures.some c.settings_in.ensures.few c.settings_in.ensures.some_steps c.settings_in.ensures.few_steps

pub returns-in-record : goal.returns-in-record
returns-in-record c = λ words has.
    settings_read words c.args.name.now (found_of c.args.matches.now) c.settings_in-in-record.result Record has.taken has.command_is c.in-record.is c.settings_in-in-record.ensures.command tt
    c.settings_in-in-record.ensures.threads c.settings_in-in-record.ensures.steps c.settings_in-in-record.ensures.serial c.settings_in-in-record.ensures.some c.settings_in-in-record.ensures.few c.settings_in-in-record.ensures.some_steps c.settings_in-in-record.ensures.few_steps

pub returns-in-profile : goal.returns-in-profile
returns-in-profile c = λ words has.
    settings_read words c.args.name.now (found_of c.args.matches.now) c.settings_in-in-profile.result Profile has.taken has.command_is c.in-profile.is c.settings_in-in-profile.ensures.command tt
    c.settings_in-in-profile.ensures.threads c.settings_in-in-profile.ensures.steps c.settings_in-in-profile.ensures.serial c.settings_in-in-profile.ensures.some c.settings_in-in-profile.ensures.few c.settings_in-in-profile.ensures.some_steps c.settings_in-in-profile.ensures.few_steps

pub returns-in-timeline : goal.returns-in-timeline
returns-in-timeline c = λ words has.
    settings_read words c.args.name.now (found_of c.args.matches.now) c.settings_in-in-timeline.result (Timeline c.columns_in.result) has.taken has.command_is c.in-timeline.is c.settings_in-in-timeline.ensures.command c.columns_in.ensures
    c.settings_in-in-timeline.ensures.threads c.settings_in-in-timeline.ensures.steps c.settings_in-in-timeline.ensures.serial c.settings_in-in-timeline.ensures.some c.settings_in-in-timeline.ensures.few c.settings_in-in-timeline.ensures.some_steps c.settings_in-in-timeline.ensures.few_steps

pub returns-in_default : goal.returns-in_default
returns-in_default c = λ words has.
    let list = listing_left words c.args.name.now (rows_of (found_of c.args.matches.now)) has.command_is c.in_default.not-show c.in_default.not-migrate c.in_default.not-check c.in_default.not-rerun c.in_default.not-tasks c.in_default.not-gen
    c.in_default.not-run c.in_default.not-record c.in_default.not-profile c.in_default.not-timeline in
    settings_read words c.args.name.now (found_of c.args.matches.now) c.settings_in-in_default.result Listing has.taken has.command_is list c.settings_in-in_default.ensures.command tt
    c.settings_in-in_default.ensures.threads c.settings_in-in_default.ensures.steps c.settings_in-in_default.ensures.serial c.settings_in-in_default.ensures.some c.settings_in-in_default.ensures.few c.settings_in-in_default.ensures.some_steps c.settings_in-in_default.ensures.few_steps

pub returns-in_default-output_in : goal.returns-in_default-output_in
returns-in_default-output_in c = λ words has.
    both_held words c.args.name.now (found_of c.args.matches.now) has.taken has.command_is c.in-run.is (c.in_default-output_in.ensures.history refl)
    (c.in_default-output_in.ensures.profile refl)
