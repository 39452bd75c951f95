mod ThreadSafety
