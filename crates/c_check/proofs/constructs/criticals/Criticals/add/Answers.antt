use Rattle.std.proofs.Common.{◌≡◌, ◌+◌, ℕ, Option, Some, None, cond, true, false, sym, ap, ◌∙◌, nat_eq, arith}
use Rattle.std.specs.Option.{is_some, option_or}
use Rattle.std.proofs.lemmas.Bool.{eqb-true}
use Rattle.std.proofs.lemmas.List.{length_push}
use Rattle.c_check.specs.Once.{is_among}
use Rattle.c_check.proofs.Kept.{kept_new}
use Rattle.c_check.proofs.NumbersOfCriticals.{among-some, number_among-more}
use Rattle.c_check.proofs.constructs.criticals.Criticals.add.Goals as goal

pub returns-then-contains_key : goal.returns-then-contains_key
returns-then-contains_key c = λ names are.
    let known : is_among names c.args.name ≡ true = sym (among-some names c.args.name) ∙ sym (ap is_some (are.numbers c.args.name)) ∙ sym c.contains_key.ensures ∙ c.if-contains_key.true in
    rw known are

pub returns : goal.returns
returns c = λ names are.
    let none : is_some (_) ≡ false = sym c.contains_key.ensures ∙ c.if-contains_key.false in
    let fresh : is_among names c.args.name ≡ false = sym (among-some names c.args.name) ∙ sym (ap is_some (are.numbers c.args.name)) ∙ none in
    rw fresh
    (record {
      numbers = λ name.
          kept_new nat_eq eqb-true c.args.name (c.args.self.now.count + 1) _ _ none c.in_ok-insert.ensures.updates.0 name
          ∙ ap (λ (found : Option ℕ). option_or found (cond (nat_eq c.args.name name) (Some (c.args.self.now.count + 1)) None)) (are.numbers name)
          ∙ sym (number_among-more names c.args.name (c.args.self.now.count + 1) name (omega (arith, are.count)));
      count = omega (arith, are.count, length_push names c.args.name);
    })
