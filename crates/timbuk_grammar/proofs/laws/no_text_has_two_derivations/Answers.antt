-- Trees spell what is derived, and no two trees spell the same.
use Rattle.timbuk_grammar.specs.lemmas.Derived.{file_tree, tree_file}
use Rattle.timbuk_grammar.specs.lemmas.Alike.{only_tree}
use Rattle.timbuk_grammar.proofs.laws.no_text_has_two_derivations.Goals as goal

pub returns : goal.returns
returns c = λ xs. record { tree = (file_tree xs, tree_file xs); only = only_tree xs }
