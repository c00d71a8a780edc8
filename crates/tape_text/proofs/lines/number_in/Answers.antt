use Rattle.std.proofs.Common.{[], ◌∷◌, MatchResult, get_or, arith}
use Rattle.tape_text.specs.Numbers.{texts, Numbers, Complains}
use Rattle.tape_text.specs.Calls.{number_limits}
use Rattle.tape_text.proofs.Reading.{no_word, one_read, at_one}
use Rattle.tape_text.proofs.lines.number_in.Goals as goal

pub returns-in-len1 : goal.returns-in-len1
returns-in-len1 c =
    at_one (λ ws. MatchResult c.u32_in.result (λ n. Numbers number_limits (texts ws) (n ∷ [])) (Complains number_limits (texts ws))) no_word c.args.words.now (omega arith) (omega arith) (one_read (get_or c.args.words.now 0 no_word).now _ c.u32_in.ensures)
