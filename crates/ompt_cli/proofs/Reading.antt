-- A text spells a program, or is refused for one thing, and not both.
use Rattle.std.proofs.Common.{◌≡◌, ℕ, ◌≤◌, ◌⊎◌, Bool, true, false, ltb, inl, inr, List, [], ◌∷◌, ◌++◌, append-nil, length, length-append, Option, Some, None, IfSome, IsSomeAnd, Ok, refl, sym, ap, subst, ◌∙◌, arith}
use Rattle.std.{specs.Io.KnownBytes.Consumes, specs.Io.KnownBytes.IsAtEnd, proofs.lemmas.Bool.ltb-false, proofs.lemmas.Bool.ltb-true}
use Rattle.c_tokens.{specs.workings.Tokens.tokens_of, proofs.Ending.ends-one, proofs.Ending.read-or-ended, proofs.Ending.reads-no_end, proofs.Law.reads-one, proofs.Spans.tokens-end}
use Rattle.c_syntax.{specs.declared.fault.SyntaxFault.SyntaxFault, proofs.OneAnswer.fault_one, proofs.OneAnswer.not_both, proofs.OneAnswer.tree_one, proofs.OneAnswer.tree_or_fault}
use Rattle.c_check.specs.Checked.{rule_fault}
use Rattle.numbered_runs.specs.Alike.{AreAlike}
use Rattle.ompt_cli.specs.Names.{ConsumesMore, Spot, Token, TokenFault, Reads, beginning, EndsIn, main_of, Tree, HasSyntaxFault, IsTreeOf, TreeView, root_tree, rule_fault_in, CheckFault}
use Rattle.ompt_cli.specs.Text.{HasTree, IsProgram, IsReadAs, IsRefused, Spells, end_at, end_of, rule_broken, EndsFor, IsLoaded}
use Rattle.ompt_cli.specs.declared.{end.Refusal.TheVariants.Tokens, end.Refusal.TheVariants.Syntax, end.Refusal.TheVariants.Rule, end.Refusal.TheVariants.TooLong, end.End.TheVariants.Refused, end.Refusal.Refusal, end.End.End, job.LoadedProgram.LoadedProgram}

module _ (text : List ℕ) where
  -- a text has one list of tokens, with one tree
  tree-one : (tokens others : List Token) (first second : Tree) → HasTree text tokens first → HasTree text others second → rule_broken text tokens first ≡ rule_broken text others second
  tree-one tokens others first second one other =
      let same = reads-one text tokens others one.read other.read in
      let tree = tree_one text first second one.tree_is other.tree_is in
      cc

  -- it is refused for one thing
  pub refusal-one : (first second : Refusal) → IsRefused first text → IsRefused second text → first ≡ second
  refusal-one TooLong TooLong over too = refl
  refusal-one TooLong other over too = absurd (omega (arith, too.0, over))
  refusal-one other TooLong has over = absurd (omega (arith, has.0, over))
  refusal-one (Tokens found) (Tokens other) has too = ap Tokens (ends-one text found other has.1 too.1)
  refusal-one (Tokens found) (Syntax other) has too = absurd (reads-no_end text too.1.tokens found too.1.read has.1)
  refusal-one (Tokens found) (Rule other) has too = absurd (reads-no_end text too.1.0 found too.1.2.read has.1)
  refusal-one (Syntax found) (Tokens other) has too = absurd (reads-no_end text has.1.tokens other has.1.read too.1)
  refusal-one (Syntax found) (Syntax other) has too = ap Syntax (fault_one text found other has.1 too.1)
  refusal-one (Syntax found) (Rule other) has too = absurd (not_both text too.1.1 found too.1.2.tree_is has.1)
  refusal-one (Rule found) (Tokens other) has too = absurd (reads-no_end text has.1.0 other has.1.2.read too.1)
  refusal-one (Rule found) (Syntax other) has too = absurd (not_both text has.1.1 other has.1.2.tree_is too.1)
  refusal-one (Rule found) (Rule other) has too =
      let same = tree-one has.1.0 too.1.0 has.1.1 too.1.1 has.1.2 too.1.2 in
      let one = has.1.3 in
      let two = too.1.3 in
      cc

  -- what is read of a text breaks the rule that the text does
  rule-is : (program : TreeView) (is : IsReadAs text program) (known : Option CheckFault) → rule_fault program ≡ known → rule_broken text is.tokens (root_tree program) ≡ known
  rule-is program is known same =
      subst (λ (end : Spot). rule_fault_in (root_tree program) end (main_of text is.tokens) ≡ known) is.end_is
      (subst (λ main. rule_fault_in (root_tree program) program.end main ≡ known) is.main_is same)

  -- programs that it spells differ in the numbers of their nodes alone
  pub programs-alike : (one other : TreeView) → Spells text one → Spells text other → AreAlike one other
  programs-alike one other first second =
      let same = reads-one text first.read.tokens second.read.tokens first.read.has.read second.read.has.read in record {
        root = tree_one text (root_tree one) (root_tree other) first.read.has.tree_is second.read.has.tree_is;
        end = first.read.end_is ∙ ap end_of same ∙ sym second.read.end_is;
        main = first.read.main_is ∙ ap (main_of text) same ∙ sym second.read.main_is;
      }

  -- and for nothing where it spells a program
  pub program-not_refused : (why : Refusal) → IsProgram text → IsRefused why text → ⊥
  program-not_refused (Tokens found) program other = reads-no_end text program.1.read.tokens found program.1.read.has.read other.1
  program-not_refused (Syntax found) program other = not_both text (root_tree program.0) found program.1.read.has.tree_is other.1
  program-not_refused (Rule found) program other =
      let same = tree-one program.1.read.tokens other.1.0 (root_tree program.0) other.1.1 program.1.read.has other.1.2 in
      let one = rule-is program.0 program.1.read None program.1.keeps in
      let two = other.1.3 in
      cc
  program-not_refused TooLong program over = absurd (omega (arith, program.1.short, over))

  -- what was read of a text that isn't too long
  module _ (program : TreeView) (is : IsReadAs text program) (short : length text ≤ 65536) where
    pub spells-by : (now : TreeView) → now ≡ program → rule_fault program ≡ None → Spells text now
    spells-by now same keeps = subst (λ (view : TreeView). Spells text view) (sym same) (record { short = short; read = is; keeps = keeps })

    pub broken-by : (found : CheckFault) → rule_fault program ≡ Some found → IsRefused (Rule found) text
    broken-by found same = (short, (is.tokens, root_tree program, is.has, rule-is program is (Some found) same))

-- the last token stands where the text ends
end_at-last : (spot : Spot) (front : List Token) (last : Token) → end_at spot (front ++ last ∷ []) ≡ last.spot
end_at-last spot [] last = refl
end_at-last spot (first ∷ front) last = end_at-last first.spot front last

-- so a tree that was read of a text is that of the text, with its end and the number of its name `main`
pub read-as : (text : List ℕ) (tokens : List Token) (program : TreeView) → Reads beginning text tokens → tokens_of text ≡ Ok tokens → IsTreeOf text (root_tree program)
    → ((front : List Token) (last : Token) → tokens ≡ front ++ last ∷ [] → program.end ≡ last.spot) → program.main ≡ main_of text tokens → IsReadAs text program
read-as text tokens program read are tree at_last main =
    let ended = tokens-end text tokens are in record {
      tokens = tokens;
      has = record { read = read; tree_is = tree };
      end_is = at_last ended.front ended.last ended.parts ∙ sym (ap (λ list. end_of list) ended.parts ∙ end_at-last (record { line = 1; column = 1 }) ended.front ended.last);
      main_is = main;
    }

-- a text that isn't too long runs or is refused
module _ (text : List ℕ) (short : length text ≤ 65536) where
  by-rule : (tokens : List Token) (tree : Tree) → HasTree text tokens tree → (known : Option CheckFault) → rule_broken text tokens tree ≡ known → IsProgram text ⊎ ((why : Refusal) × IsRefused why text)
  by-rule tokens tree has None is =
      let program : TreeView = record { trees = tree ∷ []; root = 0; end = end_of tokens; main = main_of text tokens } in
      inl (program, record { short = short; read = record { tokens = tokens; has = has; end_is = refl; main_is = refl }; keeps = is })
  by-rule tokens tree has (Some found) is = inr (Rule found, (short, (tokens, tree, has, is)))

  by-tree : (tokens : List Token) → Reads beginning text tokens → ((tree : Tree) × IsTreeOf text tree) ⊎ ((found : SyntaxFault) × HasSyntaxFault text found) → IsProgram text ⊎ ((why : Refusal) × IsRefused why text)
  by-tree tokens read (inl (tree, is)) = by-rule tokens tree (record { read = read; tree_is = is }) (rule_broken text tokens tree) refl
  by-tree tokens read (inr (found, has)) = inr (Syntax found, (short, has))

  by-tokens : ((tokens : List Token) × Reads beginning text tokens) ⊎ ((found : TokenFault) × EndsIn beginning text found) → IsProgram text ⊎ ((why : Refusal) × IsRefused why text)
  by-tokens (inl (tokens, read)) = by-tree tokens read (tree_or_fault text tokens read)
  by-tokens (inr (found, ends)) = inr (Tokens found, (short, ends))

-- and each other text is refused as too long
pub text-judged : (text : List ℕ) → IsProgram text ⊎ ((why : Refusal) × IsRefused why text)
text-judged text = by (ltb 65536 (length text)) refl
  where
    by : (long : Bool) → ltb 65536 (length text) ≡ long → IsProgram text ⊎ ((why : Refusal) × IsRefused why text)
    by true is = inr (TooLong, ltb-true 65536 (length text) is)
    by false is = by-tokens text (ltb-false 65536 (length text) is) (read-or-ended text)

-- How a command ends that comes to no program.

-- the text has this to be refused for
pub ends-refused : (text : List ℕ) (why : Refusal) → IsRefused why text → EndsFor (Some text) (Refused why)
ends-refused text why is = record {
  before = tt;
  refused = λ other same. let one : why ≡ other = cc in subst (λ (why : Refusal). IsRefused why text) one is;
  accepted = λ other has. refusal-one text why other is has;
  runs = λ program. absurd (program-not_refused text why program is);
}

pub longer : (xs given rest : List ℕ) → xs ≡ given ++ rest → length given ≤ length xs
longer xs given rest same = omega (arith, ap length same, length-append given rest)

-- the source gave more than a text may have
pub ends-long : (left rest : Option (List ℕ)) → ConsumesMore left rest 65536 → EndsFor left (Refused TooLong)
ends-long None rest more = record { before = tt; refused = λ why same. tt; accepted = λ why has. absurd has; runs = λ program. absurd program }
ends-long (Some text) None more = absurd more.2
ends-long (Some text) (Some rest) more = ends-refused text TooLong (omega (arith, longer text more.0 rest more.2, more.1))

-- the source gave this text, and no more
pub read-whole : (left rest : Option (List ℕ)) (given : List ℕ) → Consumes left rest given → IfSome left (λ text. IsAtEnd rest) → IfSome left (λ text. text ≡ given)
read-whole None rest given takes end = tt
read-whole (Some text) None given takes end = absurd takes
read-whole (Some text) (Some rest) given takes end = takes ∙ ap (λ more. given ++ more) end ∙ append-nil given

pub loaded-read : (left : Option (List ℕ)) (text : List ℕ) → IfSome left (λ one. one ≡ text) → (loaded : LoadedProgram) → IsLoaded (Some text) loaded → IsLoaded left loaded
loaded-read None text same loaded is = record { spelled = is.spelled; same = tt }
loaded-read (Some one) text same loaded is = record { spelled = is.spelled; same = same ∙ is.same }

pub ends-read : (left : Option (List ℕ)) (text : List ℕ) → IfSome left (λ one. one ≡ text) → (end : End) → EndsFor (Some text) end → EndsFor left end
ends-read None text same end is = record { before = is.before; refused = λ why refused. tt; accepted = λ why has. absurd has; runs = λ program. absurd program }
ends-read (Some one) text same end is = subst (λ text. EndsFor (Some text) end) (sym same) is

-- a text of which a program was loaded has nothing to be refused for
pub loaded-unrefused : (text : Option (List ℕ)) (loaded : LoadedProgram) → IsLoaded text loaded → (why : Refusal) → IsSomeAnd text (IsRefused why) → ⊥
loaded-unrefused None loaded is why has = has
loaded-unrefused (Some text) loaded is why has = program-not_refused loaded.text.items why (loaded.program, is.spelled) (subst (IsRefused why) is.same has)
