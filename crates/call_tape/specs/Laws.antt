-- The laws of tapes, which hold whatever tape is read.
use Rattle.call_tape.specs.Tapes.{OneReading}
use Rattle.call_tape.specs.Written.{WrittenReads, OnlyWritten}
use Rattle.call_tape.specs.Soundness.{WrittenAgain, SoundFaultless}

pub record TapeLaws : Type 0 where
  pub once : OneReading
  pub written : WrittenReads
  pub only : OnlyWritten
  pub again : WrittenAgain
  pub faultless : SoundFaultless
