use Rattle.tool_tasks.proofs.chain_builder.ChainBuilder.finish.Goals as goal

pub returns-clause-walk : goal.returns-clause-walk
returns-clause-walk c = λ past holds. rw (c.finish.ensures.links, c.finish.ensures.longest) holds.reaches.walk
