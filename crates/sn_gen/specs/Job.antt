-- to be believed
-- The texts of a whole job over generated captures.
use Rattle.std.specs.Prelude.{ℕ, List, ◌++◌, codes}

-- the switch of the job
unfoldable pub job_switch : List ℕ
job_switch = codes "stages 16; actions 8; bits 8388608; meta 4096; chain 2; slots 256, 1024, 4096;\n"

-- the queries of the job
unfoldable pub job_queries : List ℕ
job_queries =
    codes "window 1000000\n"
    ++ codes "query newconn {\n"
    ++ codes "  refine ip.dst: 8, 16, 32;\n"
    ++ codes "  packets\n"
    ++ codes "    | filter tcp.flags == 2\n"
    ++ codes "    | map ip.dst as d, 1 as n\n"
    ++ codes "    | reduce d: sum(n) width 32\n"
    ++ codes "    | filter n > 400;\n"
    ++ codes "}\n"
    ++ codes "query spread {\n"
    ++ codes "  refine ip.dst: 8, 16, 32;\n"
    ++ codes "  packets\n"
    ++ codes "    | filter ip.valid == 1\n"
    ++ codes "    | map ip.dst as d, ip.src as s\n"
    ++ codes "    | distinct\n"
    ++ codes "    | map d as d, 1 as n\n"
    ++ codes "    | reduce d: sum(n) width 32\n"
    ++ codes "    | filter n > 300;\n"
    ++ codes "}\n"
    ++ codes "query slow {\n"
    ++ codes "  refine ip.dst: 8, 16, 32;\n"
    ++ codes "  packets\n"
    ++ codes "    | filter tcp.valid == 1\n"
    ++ codes "    | map ip.dst as d, ip.src as s, tcp.sport as p\n"
    ++ codes "    | distinct\n"
    ++ codes "    | map d as d, 1 as conns\n"
    ++ codes "    | reduce d: sum(conns) width 32;\n"
    ++ codes "  packets\n"
    ++ codes "    | filter tcp.valid == 1\n"
    ++ codes "    | map ip.dst as d, ip.len as total\n"
    ++ codes "    | reduce d: sum(total) width 48;\n"
    ++ codes "  join d\n"
    ++ codes "    | map d as d, conns * 1000000 / total as ratio\n"
    ++ codes "    | filter ratio > 20000 at (8: 1000, 16: 1000);\n"
    ++ codes "}\n"
