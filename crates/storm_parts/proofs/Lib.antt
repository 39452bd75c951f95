mod Fnv
