use Rattle.std.proofs.Common.{inl, inr, refl, arith}
use Rattle.tape_text.specs.Numbers.{texts, FirstBad}
use Rattle.tape_text.specs.Calls.{opening_limits}
use Rattle.tape_text.proofs.Reading.{err_exit, misread, at_five}
use Rattle.tape_text.proofs.lines.opening_in.Goals as goal

pub returns-in_err-u8_in-in-len5 : goal.returns-in_err-u8_in-in-len5
returns-in_err-u8_in-in-len5 c =
    err_exit _ _ _ _ c.from_residual.ensures.1 (misread opening_limits c.args.words.now _ 2 255 c.in_err-u8_in-in-len5.ensures.0 (omega arith)
    (at_five (λ ws. FirstBad opening_limits (texts ws) 2 2 255) _ c.args.words.now (omega arith) (omega arith) (inl (c.in_err-u8_in-in-len5.ensures.1, refl, refl))))

pub returns-in_err-u16_in-in-len5 : goal.returns-in_err-u16_in-in-len5
returns-in_err-u16_in-in-len5 c =
    err_exit _ _ _ _ c.from_residual-in_err-u16_in-in-len5.ensures.1 (misread opening_limits c.args.words.now _ 3 65535 c.in_err-u16_in-in-len5.ensures.0 (omega arith)
    (at_five (λ ws. FirstBad opening_limits (texts ws) 2 3 65535) _ c.args.words.now (omega arith) (omega arith) (inr (_, c.in_ok-u8_in-in-len5.ensures, inl (c.in_err-u16_in-in-len5.ensures.1, refl, refl)))))

pub returns-in_err-u8_in-in-len5-2 : goal.returns-in_err-u8_in-in-len5-2
returns-in_err-u8_in-in-len5-2 c =
    err_exit _ _ _ _ c.from_residual-in_err-u8_in-in-len5-2.ensures.1 (misread opening_limits c.args.words.now _ 4 255 c.in_err-u8_in-in-len5-2.ensures.0 (omega arith)
    (at_five (λ ws. FirstBad opening_limits (texts ws) 2 4 255) _ c.args.words.now (omega arith) (omega arith) (inr (_, c.in_ok-u8_in-in-len5.ensures, inr (_, c.in_ok-u16_in-in-len5.ensures, inl (c.in_err-u8_in-in-len5-2.ensures.1, refl, refl))))))

pub returns-in_err-u32_in-in-len5 : goal.returns-in_err-u32_in-in-len5
returns-in_err-u32_in-in-len5 c =
    err_exit _ _ _ _ c.from_residual-in_err-u32_in-in-len5.ensures.1 (misread opening_limits c.args.words.now _ 5 4294967295 c.in_err-u32_in-in-len5.ensures.0 (omega arith)
    (at_five (λ ws. FirstBad opening_limits (texts ws) 2 5 4294967295) _ c.args.words.now (omega arith) (omega arith) (inr (_, c.in_ok-u8_in-in-len5.ensures, inr (_, c.in_ok-u16_in-in-len5.ensures, inr (_, c.in_ok-u8_in-in-len5-2.ensures, inl (c.in_err-u32_in-in-len5.ensures.1, refl, refl)))))))

pub returns-in_err-u32_in-in-len5-2 : goal.returns-in_err-u32_in-in-len5-2
returns-in_err-u32_in-in-len5-2 c =
    err_exit _ _ _ _ c.from_residual-in_err-u32_in-in-len5-2.ensures.1 (misread opening_limits c.args.words.now _ 6 4294967295 c.in_err-u32_in-in-len5-2.ensures.0 (omega arith)
    (at_five (λ ws. FirstBad opening_limits (texts ws) 2 6 4294967295) _ c.args.words.now (omega arith) (omega arith) (inr (_, c.in_ok-u8_in-in-len5.ensures, inr (_, c.in_ok-u16_in-in-len5.ensures, inr (_, c.in_ok-u8_in-in-len5-2.ensures, inr (_, c.in_ok-u32_in-in-len5.ensures, inl (c.in_err-u32_in-in-len5-2.ensures.1, refl, refl))))))))
