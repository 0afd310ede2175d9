use Rattle.std.proofs.Common.{◌≡◌, refl, true, codes, []}
use Rattle.clap.specs.Words.{is_simple_and_free, is_simple}
use Rattle.clap.proofs.OnLiterals.{clap_on_literals}
use Rattle.command_words.specs.Commands.{check_app, check_names}
use Rattle.command_words.proofs.Ordinary.{IsOrdinary, reads_line, rules_for}
use Rattle.command_words.proofs.Forms.{known_word}
use Rattle.command_words.proofs.check.check_matches.Goals as goal

is_free : is_simple_and_free check_app ≡ true
unfolding clap_on_literals
is_free = refl

is_plain : is_simple check_app ≡ true
unfolding clap_on_literals
is_plain = refl

ordinary : IsOrdinary (codes "check") [] check_names check_app
unfolding known_word
ordinary = record {
  free = is_free;
  plain = is_plain;
  built_is = refl;
  first_is_name = λ words. refl;
  placed = (known_word (codes "check") (rules_for [] check_names) (codes "spec") 1 refl, refl, (known_word (codes "check") (rules_for [] check_names) (codes "cert") 2 refl, refl, refl));
}

pub returns : goal.returns
returns c =
    reads_line (codes "check") [] check_names check_app ordinary _ c.args.words.now c.try_get_matches_from.result c.in_ok-command.ensures
    c.try_get_matches_from.ensures.kinds c.try_get_matches_from.ensures.matches
