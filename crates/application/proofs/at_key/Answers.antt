-- `applying::at_key` meets its contract.
use Rattle.application.proofs.Finding.{key_sought, key_done}
use Rattle.application.proofs.at_key.Goals as goal

pub bring-requires : goal.bring-requires
bring-requires c = key_sought c.find_key-found.ensures c.requires

pub returns : goal.returns
returns c = key_done c.find_key-found.ensures c.bring.ensures
