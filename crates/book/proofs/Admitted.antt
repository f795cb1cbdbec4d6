-- A call that no cause sends back: no cause holds.
use Rattle.std.proofs.Common.{◌≡◌, false, Ok, rules}
use Rattle.book.specs.Causes.{Matter, first_cause}

pub record Clear (c : Matter) : Type 0 where
  pub closed : c.closed ≡ false
  pub wrong_places : c.wrong_places ≡ false
  pub few_fills : c.few_fills ≡ false
  pub at_once_while_halted : c.at_once_while_halted ≡ false
  pub not_resting : c.not_resting ≡ false
  pub verdict : c.verdict ≡ Ok tt
  pub no_place : c.no_place ≡ false
  pub no_stamp : c.no_stamp ≡ false
  pub wrong_quote : c.wrong_quote ≡ false
  pub wrong_phase : c.wrong_phase ≡ false

pub clear : (c : Matter) → first_cause c ≡ Ok tt → Clear c
clear c e = grind rules
