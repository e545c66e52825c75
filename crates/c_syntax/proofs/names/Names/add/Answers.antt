use Rattle.std.proofs.Common.{◌≡◌, ℕ, ◌+◌, None, Option, ap, cond, sym, ◌∙◌}
use Rattle.std.specs.Option.{is_some}
use Rattle.std.specs.HashMap.{hash_map_len}
use Rattle.std.proofs.lemmas.Map.Text.{hash_map_updates_str}
use Rattle.c_syntax.proofs.Numbers.{names-new, number-new}
use Rattle.c_syntax.proofs.names.Names.add.Goals as goal

pub returns-clause-names : goal.returns-clause-names
returns-clause-names c = λ before are.
    let none = sym c.in_default.ensures.value in
    let old : c.in_ok-insert.field-0 ≡ None = c.in_ok-insert.ensures.old ∙ none in
    names-new before c.args.self.now (record { numbers = c.insert.new.self }) c.args.name.now (c.len.result + 1) (ap (λ (n : ℕ). n + 1) c.len.ensures.len) are none
    (hash_map_updates_str c.args.name.now c.args.self.now.numbers c.insert.new.self _ c.in_ok-insert.ensures.updates)
    (c.in_ok-insert.ensures.len ∙ ap (λ (o : Option ℕ). hash_map_len c.args.self.now.numbers + cond (is_some o) 0 1) old)

pub returns-clause-number : goal.returns-clause-number
returns-clause-number c = λ before are.
    ap (λ (n : ℕ). n + 1) c.len.ensures.len ∙ number-new before c.args.self.now c.args.name.now are (sym c.in_default.ensures.value)
