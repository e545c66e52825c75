use Rattle.tool_tasks.proofs.Cases.{same_leads}
use Rattle.tool_tasks.proofs.laws.leads_by_keys.Goals as goal

pub returns : goal.returns
returns c = same_leads
