use Rattle.tool_api.proofs.handed.HandedToolPart.callback.Goals as goal

pub returns-in-Quiet-clause-heard : goal.returns-in-Quiet-clause-heard
returns-in-Quiet-clause-heard g c = rw c.in-Quiet.is c.callback-in-Quiet.ensures.heard
