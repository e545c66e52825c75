use Rattle.test_texts.proofs.Controls.{last_one}
use Rattle.test_texts.proofs.driver.Driver.advance.Goals as goal

pub advance_code-requires : goal.advance_code-requires
advance_code-requires c = last_one c.self.inside.code _ _ c.in-Some.control c.self.invariant c.in-Some.ensures.items
