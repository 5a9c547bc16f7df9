-- What references in the code point to.
use Rattle.config_rules.specs.declared.words.Declaration.{Declaration}
use Rattle.config_rules.specs.declared.numbers.Counted.{Counted}
use Rattle.config_rules.specs.declared.place.Origins.{Origins}
use Rattle.config_rules.specs.declared.place.Space.{Space}
use Rattle.config_rules.specs.declared.place.Spot.{Spot}
use Rattle.config_rules.specs.Words.{Declared}
use Rattle.config_rules.specs.Numbers.{Scaled}
use Rattle.config_rules.specs.InOrder.{Place, Scope, Sources}

-- a declared zone
abbrev pub declared_now : Declaration → Declared
declared_now d = record { name = d.name.now; size = d.size.now }

-- scaled digits
abbrev pub scaled_now : Counted → Scaled
scaled_now s = record { digits = s.digits.now; unit = s.unit }

-- the sources of settings
abbrev pub sources_now : Origins → Sources
sources_now s = record {
  req = s.req.now;
  conn = s.conn.now;
  req_status = s.req_status.now;
  conn_status = s.conn_status.now;
  req_dry = s.req_dry.now;
  conn_dry = s.conn_dry.now;
}

-- a block that is read
abbrev pub scope_now : Space → Scope
scope_now s = record { context = s.context; block = s.block.now; sources = sources_now s.sources }

-- a directive's place
abbrev pub place_now : Spot → Place
place_now p = record { scope = scope_now p.scope; before = p.before.now; directive = p.directive.now }
