use Rattle.trace_format.specs.Flat.{stage_in}
use Rattle.trace_format.proofs.Front.{has_number, has_version}
use Rattle.trace_format.proofs.next.next_field.Goals as goal

pub header_field-requires-clause-three : goal.header_field-requires-clause-three
header_field-requires-clause-three c = (has_version (stage_in c.args.kept.now) c.args.place c.args.bytes.now c.requires c.if-kept.false c.in-None.is).three

pub header_field-requires-clause-four : goal.header_field-requires-clause-four
header_field-requires-clause-four c = (has_version (stage_in c.args.kept.now) c.args.place c.args.bytes.now c.requires c.if-kept.false c.in-None.is).four

pub record_field-requires : goal.record_field-requires
record_field-requires c = has_number (stage_in c.args.kept.now) c.args.place c.args.bytes.now c.in-Some.header c.requires c.if-kept.false c.in-Some.is
