-- By the format.
use Rattle.formats.specs.Template.{is_allowed}
use Rattle.octets.specs.Ascii.{ascii}
use Rattle.formats.proofs.is_allowed.Goals as goal

pub returns-in-Plain : goal.returns-in-Plain
unfolding is_allowed ascii
returns-in-Plain c = rw c.in-Plain.is

pub returns-in-Cisco : goal.returns-in-Cisco
unfolding is_allowed ascii
returns-in-Cisco c = rw c.in-Cisco.is c.is_word.ensures

pub returns-in-Bird : goal.returns-in-Bird
returns-in-Bird c = rw c.in-Bird.is c.is_bird.ensures

pub returns-in-Juniper : goal.returns-in-Juniper
unfolding is_allowed ascii
returns-in-Juniper c = rw c.in-Juniper.is c.is_word-in-Juniper.ensures

pub returns-in-Json : goal.returns-in-Json
unfolding is_allowed ascii
returns-in-Json c = rw (c.in-Json.is, c.has_byte.ensures)
