use Rattle.tool_api.proofs.handed.HandedToolPart.initialize.Goals as goal

pub returns-in-Quiet-clause-started : goal.returns-in-Quiet-clause-started
returns-in-Quiet-clause-started g c = rw c.in-Quiet.is c.initialize-in-Quiet.ensures.started
