use Rattle.std.proofs.Common.{◌≡◌, codes, take}
use Rattle.config_rules.specs.Words.{has_called}
use Rattle.config_rules.proofs.place.own_settings.Given as goal

abbrev pub invariant-loop-directive : goal.invariant-loop-directive
invariant-loop-directive l =
    (l.own.req ≡ has_called (codes "limit_req") (take l.directive-index l.block))
    × (l.own.conn ≡ has_called (codes "limit_conn") (take l.directive-index l.block))
    × (l.own.req_status ≡ has_called (codes "limit_req_status") (take l.directive-index l.block))
    × (l.own.conn_status ≡ has_called (codes "limit_conn_status") (take l.directive-index l.block))
    × (l.own.req_dry ≡ has_called (codes "limit_req_dry_run") (take l.directive-index l.block))
    × (l.own.conn_dry ≡ has_called (codes "limit_conn_dry_run") (take l.directive-index l.block))
